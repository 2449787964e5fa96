-- Two passes that take a note of each other.
use Rattle.std.proofs.Common.{◌≡◌, List, length, None, sym, ap, ◌∙◌, subst}
use Rattle.ms_ken.specs.Known.{Known}
use Rattle.ms_ken.specs.Lists.{Begins, longer_lists}
use Rattle.ms_ken.specs.Rows.{agree_within, length-longer_lists, longer_of_begins, longer_lists-swap}

module _ {E : Type 0} where
  -- what x and y were, and what they are
  pub record Met (x y x' y' : Known E) : Type 0 where
    pub same : x'.lists ≡ y'.lists
    pub other : y' ≡ record y { lists = longer_lists y.lists x.lists }
    pub first : Begins x.lists x'.lists × Begins x.lists y'.lists
    pub second : Begins y.lists x'.lists × Begins y.lists y'.lists

  -- x took a note of y, and is `one`; y took a note of that
  pub met : (x y kept note one one' note' other : Known E) → length x.lists ≡ length y.lists → kept ≡ y → note ≡ record y { word = None }
      → one ≡ record x { lists = longer_lists x.lists note.lists } → Begins x.lists one.lists → Begins note.lists one.lists
      → one' ≡ one → note' ≡ record one { word = None } → other ≡ record kept { lists = longer_lists kept.lists note'.lists } → Met x y one' other
  met x y kept note one one' note' other wide keeps notes takes first second same notes' takes' =
      let all : List (List E) = longer_lists x.lists y.lists in
      let both : one.lists ≡ all = ap (λ k. k.lists) takes ∙ ap (λ k. longer_lists x.lists k.lists) notes in
      let mine : Begins x.lists all = subst (Begins x.lists) both first in
      let theirs : Begins y.lists all = subst (Begins y.lists) both (subst (λ (k : Known E). Begins k.lists one.lists) notes second) in
      let swap : all ≡ longer_lists y.lists x.lists = longer_lists-swap x.lists y.lists wide (agree_within x.lists y.lists all mine theirs) in
      let last : longer_lists y.lists all ≡ all = longer_of_begins y.lists all (sym (length-longer_lists x.lists y.lists wide ∙ wide)) theirs in
      let taken : longer_lists kept.lists note'.lists ≡ all = ap (λ k. longer_lists k.lists note'.lists) keeps ∙ (ap (longer_lists y.lists) (ap (λ k. k.lists) notes' ∙ both) ∙ last) in
      let known : one'.lists ≡ all = ap (λ k. k.lists) same ∙ both in
      let met : other.lists ≡ all = ap (λ k. k.lists) takes' ∙ taken in
      let path : longer_lists kept.lists note'.lists ≡ longer_lists y.lists x.lists = taken ∙ swap in
      let full : record kept { lists = longer_lists kept.lists note'.lists } ≡ record y { lists = longer_lists y.lists x.lists } = λ i. record { board = (keeps i).board; word = (keeps i).word; lists = path i } in
      record {
        same = known ∙ sym met;
        other = takes' ∙ full;
        first = (subst (Begins x.lists) (sym known) mine, subst (Begins x.lists) (sym met) mine);
        second = (subst (Begins y.lists) (sym known) theirs, subst (Begins y.lists) (sym met) theirs);
      }
