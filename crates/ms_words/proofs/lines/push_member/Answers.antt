use Rattle.std.proofs.Common.{[], ◌∷◌}
use Rattle.std.specs.Fmt.{decimal}
use Rattle.std.proofs.lemmas.Result.{on_ok_weaker}
use Rattle.hex.specs.Hex.{encode_lower}
use Rattle.ms_record.specs.Entries.{name_of}
use Rattle.ms_words.specs.Texts.{member_line, kind_word, author_text, generation_word}
use Rattle.ms_words.proofs.Members.{seven_pushed}
use Rattle.ms_words.proofs.lines.push_member.Goals as goal

pub returns : goal.returns
unfolding member_line
returns c =
    let e = c.args.entry.now in
    on_ok_weaker c.push_text-2.result
    (λ last. seven_pushed c.args.out.now.items (decimal c.args.position) (32 ∷ []) (encode_lower (name_of e)) (kind_word e.plan) (author_text e) (generation_word e.plan) (10 ∷ []) _ _ _ _ _ _ _
    c.in_ok-push_number.ensures.ok c.in_ok-push_text.ensures.ok c.in_ok-push_entry_name.ensures c.in_ok-push_kind.ensures c.in_ok-push_author.ensures c.in_ok-push_generation.ensures last)
    c.push_text-2.ensures.ok
