use Rattle.std.proofs.Common.{[], ◌∷◌, length}
use Rattle.std.specs.Int.{w32, to_be_bytes}
use Rattle.std.proofs.lemmas.Result.{on_ok_weaker}
use Rattle.ms_object.specs.Objects.{names_text, version_tag}
use Rattle.ms_object.proofs.Pushed.{five_pushed, one_more, grows_on}
use Rattle.ms_object.proofs.writing.push_version.Goals as goal

pub returns-clause-ok : goal.returns-clause-ok
returns-clause-ok c =
    let parents = c.args.parents.now in
    let five = five_pushed c.args.out.now.items (version_tag c.args.format ∷ []) (to_be_bytes w32 c.args.client.0) (to_be_bytes w32 c.args.number) (length parents ∷ []) (names_text parents) _ _ _ _ _
    c.in_ok-push_version_tag.ensures.ok c.in_ok-push_u32.ensures.ok c.in_ok-push_u32-2.ensures.ok c.in_ok-push_u8.ensures.ok c.in_ok-push_names.ensures.ok in
    on_ok_weaker c.push_name.result (λ last. one_more c.args.out.now.items _ c.args.root.now.0 _ _ five last) c.push_name.ensures.ok

pub returns-clause-grows : goal.returns-clause-grows
returns-clause-grows c =
    let parents = c.args.parents.now in
    let five = five_pushed c.args.out.now.items (version_tag c.args.format ∷ []) (to_be_bytes w32 c.args.client.0) (to_be_bytes w32 c.args.number) (length parents ∷ []) (names_text parents) _ _ _ _ _
    c.in_ok-push_version_tag.ensures.ok c.in_ok-push_u32.ensures.ok c.in_ok-push_u32-2.ensures.ok c.in_ok-push_u8.ensures.ok c.in_ok-push_names.ensures.ok in
    grows_on c.args.out.now.items _ _ _ five c.push_name.ensures.grows
