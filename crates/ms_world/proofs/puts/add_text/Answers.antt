use Rattle.std.proofs.Common.{◌≡◌, ◌<◌, ◌==◌, ◌||◌, ℕ, Bool, false, Option, Some, slice_index_or, ap, ◌∙◌}
use Rattle.std.specs.Option.{option_or}
use Rattle.ms_base.specs.declared.limits.TheConstants.{SERVICES}
use Rattle.ms_world.specs.Puts.{found_at, text_found, is_on}
use Rattle.ms_world.specs.declared.puts.Found.{Found}
use Rattle.ms_world.proofs.PutLaws.{text_added, first_text, first_marks}
use Rattle.ms_world.proofs.puts.add_text.Goals as goal

pub returns : goal.returns
returns c =
    let old = c.args.puts.now.entries in
    let name = c.args.name in
    let text = c.args.text.now in
    let found = c.unwrap_or-found.result in
    let there : c.copied.result ≡ found_at old name = c.copied.ensures ∙ c.get.ensures.value in
    let text_is : Some c.mark.new.self.text.now ≡ option_or (text_found (found_at old name)) (Some text) =
    ap Some c.mark.ensures.text ∙ first_text c.copied.result c.new.result found text c.new.ensures.text c.unwrap_or-found.ensures ∙ ap (λ (o : Option Found). option_or (text_found o) (Some text)) there in
    let marks_are : (s : ℕ) → s < SERVICES → slice_index_or c.mark.new.self.services s false ≡ (is_on (found_at old name) s || (s == c.args.service)) =
    λ s few. c.mark.ensures.services s few ∙ ap (λ (b : Bool). b || (s == c.args.service))
    (first_marks c.copied.result c.new.result found c.new.ensures.services c.unwrap_or-found.ensures s few ∙ ap (λ (o : Option Found). is_on o s) there) in
    text_added old c.insert.new.self.entries name text c.args.service c.mark.new.self text_is marks_are c.in_ok-insert.ensures.updates.0
