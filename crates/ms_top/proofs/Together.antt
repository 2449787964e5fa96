-- The clients of a world hold together.
use Rattle.std.proofs.Common.{◌≡◌, ℕ, List, ◌++◌, Some, ◌⊎◌, sym, ap, ◌∙◌, slice_get, arith}
use Rattle.std.proofs.lemmas.List.{get_or_append_left, length-append}
use Rattle.std.proofs.lemmas.Option.{slice_get_within, slice_get-get_or, get_or_from_slice_get}
use Rattle.ms_world.specs.Worlds.{ClientView, WorldView}
use Rattle.ms_record.specs.Chains.{Begins}
use Rattle.ms_record.specs.declared.entry.Entry.{Entry}
use Rattle.ms_top.specs.Drills.{HoldTogether}

some_one : (a b : Entry) → Some a ≡ Some b → a ≡ b
some_one a b e = cc

-- a list that goes on has at each place what it had
append_left : (xs ys : List Entry) (place : ℕ) (e : Entry) → slice_get xs place ≡ Some e → slice_get (xs ++ ys) place ≡ Some e
append_left xs ys place e at =
    let within = slice_get_within xs place e at in
    slice_get-get_or (xs ++ ys) place e (let long = length-append xs ys in omega (arith, within, long))
    ∙ ap (λ (x : Entry). Some x) (get_or_append_left xs ys e place within ∙ get_or_from_slice_get xs place e e at)

-- what a list has at a place, each list has that it begins
stays_there : (xs ys : List Entry) (place : ℕ) (e : Entry) → Begins xs ys → slice_get xs place ≡ Some e → slice_get ys place ≡ Some e
stays_there xs ys place e b at = ap (λ (zs : List Entry). slice_get zs place) (sym b.1) ∙ append_left xs b.0 place e at

pub together : (w : WorldView) (entries : List Entry) → ((client : ℕ) (c : ClientView) → slice_get w.clients client ≡ Some c → Begins c.chain entries)
    → ((i j : ℕ) (c d : ClientView) → slice_get w.clients i ≡ Some c → slice_get w.clients j ≡ Some d → Begins c.chain d.chain ⊎ Begins d.chain c.chain) → HoldTogether w entries
together w entries begins one_list = record {
  begins = begins;
  one_list = one_list;
  one_master = λ i j place c d e f there also at other.
      some_one e f (sym (stays_there c.chain entries place e (begins i c there) at) ∙ stays_there d.chain entries place f (begins j d also) other);
}
