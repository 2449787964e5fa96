use Rattle.std.proofs.Common.{◌≡◌, ℕ, List, Option, Some, Bor, String, Global, string_bytes, slice_get, sym, ap, ◌∙◌}
use Rattle.std.specs.Option.{option_map}
use Rattle.std.specs.Map.{keys_of}
use Rattle.std.specs.Map.Iter.{deref}
use Rattle.std.proofs.lemmas.Iterator.Consumers.{nth_from_yields_List, YieldsList-from_rest}
use Rattle.ms_tree.specs.Files.{FileList}
use Rattle.ms_tree.proofs.MapViews.{path_by_bytes}
use Rattle.ms_tree.proofs.files.Files.path_at.Goals as goal

pub returns-in-Some : goal.returns-in-Some
returns-in-Some c =
    let key : option_map deref c.nth.result ≡ slice_get (keys_of c.self.inside.map.entries) c.args.place =
    nth_from_yields_List c.nth.result _ c.args.place c.nth.ensures.ran (YieldsList-from_rest _ c.keys.ensures.rest) in
    ap (λ (text : List ℕ). Some text) c.as_str.ensures.value
    ∙ ap (λ (o : Option (Bor (String Global))). option_map (λ (k : String Global). string_bytes k) (option_map deref o)) (sym c.in-Some.is)
    ∙ ap (λ (o : Option (String Global)). option_map (λ (k : String Global). string_bytes k) o) key
    ∙ path_by_bytes (λ (k : String Global). string_bytes k) (λ (t : List ℕ). t) c.self.inside.map.entries c.args.place
    ∙ ap (λ (files : FileList). option_map (λ f. f.0) (slice_get files c.args.place)) c.self.view_is

pub returns-in-None : goal.returns-in-None
returns-in-None c =
    let key : option_map deref c.nth.result ≡ slice_get (keys_of c.self.inside.map.entries) c.args.place =
    nth_from_yields_List c.nth.result _ c.args.place c.nth.ensures.ran (YieldsList-from_rest _ c.keys.ensures.rest) in
    ap (λ (o : Option (Bor (String Global))). option_map (λ (k : String Global). string_bytes k) (option_map deref o)) (sym c.in-None.is)
    ∙ ap (λ (o : Option (String Global)). option_map (λ (k : String Global). string_bytes k) o) key
    ∙ path_by_bytes (λ (k : String Global). string_bytes k) (λ (t : List ℕ). t) c.self.inside.map.entries c.args.place
    ∙ ap (λ (files : FileList). option_map (λ f. f.0) (slice_get files c.args.place)) c.self.view_is
