use Rattle.std.proofs.Common.{◌≡◌, ◌≤◌, ◌+◌, ◌*◌, ◌++◌, drop, length}
use Rattle.ms_record.specs.Services.{numbers_of}
use Rattle.ms_words.specs.Texts.{service_words}
use Rattle.ms_words.proofs.refusals.add_services.Given as goal

abbrev pub invariant-loop-i : goal.invariant-loop-i
invariant-loop-i l =
    (l.line ++ service_words (numbers_of (drop l.i l.services)) ≡ l.fn.line ++ service_words l.fn.services)
    × (length l.line ≤ length l.fn.line + 21 * l.i) × (length l.services ≤ 16)
