use Rattle.std.proofs.Common.{◌≡◌, ℕ, ◌++◌, ◌∷◌, [], List, Some, if◌then◌else◌, map, string_bytes, ap, ◌∙◌, subst}
use Rattle.std.specs.Str.{bytes_eq}
use Rattle.std.specs.Map.{keys_of}
use Rattle.std.proofs.lemmas.List.{map-append}
use Rattle.ms_tree.specs.declared.draft.DraftFile.{DraftFile}
use Rattle.ms_tree.specs.DraftFiles.{drafted}
use Rattle.ms_tree.specs.Files.{text_at}
use Rattle.ms_tree.specs.Merging.{IsTagged}
use Rattle.ms_merge.proofs.GivenNames.{named_none, named_more, named_all, given_more, room}
use Rattle.ms_merge.proofs.Steps.{shown_item}
use Rattle.ms_merge.proofs.naming.give_names.Goals as goal

pub loop-file-init : goal.loop-file-init
loop-file-init c = (c.requires.given, named_none _ _ _ _ _ _)

pub first_free-requires : goal.first_free-requires
first_free-requires c = record {
  may = c.requires.may;
  few = room _ _ _ _ c.args.files.now c.args.given.now.order.items c.loop-file.given.order.items c.loop-file.file-index _ _ c.loop-file.invariant.1 c.requires.few;
  given = c.loop-file.invariant.0;
}

pub loop-file-preserved : goal.loop-file-preserved
loop-file-preserved c =
    let before : List DraftFile = c.loop-file.given.order.items in
    let name : List ℕ = string_bytes c.in_ok-path.path in
    let text : List ℕ = c.file-item.result.text.now in
    let pushed : map drafted c.push.new.self.items ≡ map drafted before ++ (name, text) ∷ [] = ap (map drafted) c.in_ok-push.ensures.items ∙ map-append drafted before _ in
    let is : IsTagged c.args.sides.now.base.now c.args.sides.now.ours.now c.args.sides.now.theirs.now c.args.tag.now (keys_of (map drafted before)) (string_bytes c.file-item.result.path) name =
    subst (λ (p : List ℕ). IsTagged c.args.sides.now.base.now c.args.sides.now.ours.now c.args.sides.now.theirs.now c.args.tag.now (keys_of (map drafted before)) p name) c.as_str.ensures.value c.in_ok-path.ensures in (
      given_more c.loop-file.given.by_name (map drafted before) c.put-in-loop-file.new.self (map drafted c.push.new.self.items) name text c.loop-file.invariant.0
          (λ path. c.in_ok-put-2.ensures.there path ∙ ap (λ (n : List ℕ). if bytes_eq path n then Some text else text_at c.loop-file.given.by_name path) c.as_str-in-loop-file-2.ensures.value) pushed,
      named_more c.args.sides.now.base.now c.args.sides.now.ours.now c.args.sides.now.theirs.now c.args.tag.now _ _ _ _ _ _ _ _ (drafted c.file-item.result) name c.loop-file.invariant.1 is
          (λ path. c.in_ok-put.ensures.there path ∙ ap (λ (n : List ℕ). if bytes_eq path n then Some text else text_at c.loop-file.draft path) c.as_str-in-loop-file.ensures.value)
          (shown_item drafted c.args.files.now c.loop-file.file-index c.file-item.result c.loop-file-test.true c.file-item.is) pushed,
    )

pub returns-clause-given : goal.returns-clause-given
returns-clause-given c = c.loop-file.invariant.0

pub returns-clause-named : goal.returns-clause-named
returns-clause-named c = named_all _ _ _ _ _ _ _ _ c.args.files.now c.loop-file.file-index c.loop-file.invariant.1 c.loop-file-test.false
