-- A field that is read is spelled so, and what is spelled so is read again.
use Rattle.std.proofs.Common.{◌≡◌, ℕ, ◌+◌, ◌-◌, ◌^◌, ◌<◌, ◌≤◌, Bool, true, false, cond, ltb, List, [], ◌∷◌, ◌++◌, length, take, drop, Some, None, refl, sym, subst, arith, inl, inr}
use Rattle.std.specs.Prelude.{nat_le, ◌&&◌}
use Rattle.std.specs.Int.{Width, w32, w64, byte_len, from_be_bytes, to_be_bytes}
use Rattle.std.proofs.lemmas.Bool.{cases_lt, ltb-false, le-ltb, leb-true, le-leb}
use Rattle.std.proofs.lemmas.List.{take_at, drop_at, take-append-drop, length-append, length-take, length-take-le, get_or-drop, get_or-take, get_or_past}
use Rattle.std.proofs.lemmas.Nat.{be_bytes_4, be_bytes_8, from_be_bytes-to_be_bytes_4, from_be_bytes-to_be_bytes_8}
use Rattle.ms_base.specs.Options.{bind_some, both}
use Rattle.ms_base.specs.declared.limits.TheConstants.{CLIENTS}
use Rattle.ms_base.specs.declared.names.Name.{Name}
use Rattle.ms_base.specs.declared.names.ClientId.{ClientId}
use Rattle.ms_base.specs.Fields.{IsBytes, byte_at, bytes_at, number_at, in_range, number_within, name_at, client_at}
use Rattle.ms_base.specs.FieldLaws.{Takes, FieldsSpelled, FieldsRead, IsBytes-rest}
use Rattle.ms_base.specs.Places.{some_same}

-- ---- steps

-- a test that did not refuse
none_or : {A : Type 0} (b : Bool) (x y : A) → cond b None (Some x) ≡ Some y → (b ≡ false) × (x ≡ y)
none_or true x y e = absurd cc
none_or false x y e = (refl, cc)

some_or : {A : Type 0} (b : Bool) (x y : A) → cond b (Some x) None ≡ Some y → (b ≡ true) × (x ≡ y)
some_or true x y e = (refl, cc)
some_or false x y e = absurd cc

-- ---- texts

IsBytes-drop : (n : ℕ) (text : List ℕ) → IsBytes text → IsBytes (drop n text)
IsBytes-drop n text h i = rw get_or-drop (h (n + i))

IsBytes-take : (n : ℕ) (text : List ℕ) → IsBytes text → IsBytes (take n text)
IsBytes-take n text h i =
    elim (cases_lt i n) [
      | inl lt ↦ rw (get_or-take n text i 0 lt) (h i)
      | inr le ↦ rw (get_or_past (take n text) i 0 (omega (arith, length-take n text))) (omega arith)
    ]

-- ---- bytes

pub byte_takes : (text : List ℕ) (x : ℕ × List ℕ) → IsBytes text → byte_at text ≡ Some x → Takes text (x.0 ∷ []) x.1
byte_takes [] x fits e = absurd cc
byte_takes (b ∷ rest) x fits e =
    subst (λ (y : ℕ × List ℕ). Takes (b ∷ rest) (y.0 ∷ []) y.1) (some_same (b, rest) x e) (record { parts = refl; bytes = IsBytes-rest b rest fits })

pub bytes_take : (count : ℕ) (text : List ℕ) (x : List ℕ × List ℕ) → IsBytes text → bytes_at count text ≡ Some x → Takes text x.0 x.1 × (length x.0 ≡ count)
bytes_take count text x fits e =
    let g = none_or (ltb (length text) count) (take count text, drop count text) x e in
    let long : count ≤ length text = ltb-false _ _ g.0 in
    let takes : Takes text (take count text) (drop count text) = record { parts = sym (take-append-drop count text); bytes = IsBytes-drop count text fits } in
    subst (λ (y : List ℕ × List ℕ). Takes text y.0 y.1 × (length y.0 ≡ count)) g.1 (takes, length-take-le count text long)

pub bytes_again : (count : ℕ) (bytes rest : List ℕ) → length bytes ≡ count → bytes_at count (bytes ++ rest) ≡ Some (bytes, rest)
bytes_again count bytes rest len =
    let long : ltb (length (bytes ++ rest)) count ≡ false = le-ltb _ _ (omega (arith, length-append bytes rest)) in
    rw (long, take_at bytes rest count len, drop_at bytes rest count len) refl

-- ---- numbers

pub record IsWide (w : Width) (limit : ℕ) : Type 0 where
  pub len : (n : ℕ) → length (to_be_bytes w n) ≡ byte_len w
  pub back : (text : List ℕ) → length text ≡ byte_len w → IsBytes text → to_be_bytes w (from_be_bytes w text) ≡ text
  pub again : (n : ℕ) → n < limit → from_be_bytes w (to_be_bytes w n) ≡ n
  pub below : (text : List ℕ) → IsBytes text → from_be_bytes w text < limit

pub wide32 : IsWide w32 (2 ^ 32)
wide32 = record {
  len = λ n. refl;
  back = λ text len fits. be_bytes_4 text _ len fits refl;
  again = λ n lt. from_be_bytes-to_be_bytes_4 n lt;
  below = λ text fits. omega (arith, fits 0, fits 1, fits 2, fits 3);
}

pub wide64 : IsWide w64 (2 ^ 64)
wide64 = record {
  len = λ n. refl;
  back = λ text len fits. be_bytes_8 text _ len fits refl;
  again = λ n lt. from_be_bytes-to_be_bytes_8 n lt;
  below = λ text fits. omega (arith, fits 0, fits 1, fits 2, fits 3, fits 4, fits 5, fits 6, fits 7);
}

pub number_takes : (w : Width) (limit : ℕ) (wide : IsWide w limit) (text : List ℕ) (x : ℕ × List ℕ) → IsBytes text → number_at w text ≡ Some x → Takes text (to_be_bytes w x.0) x.1 × (x.0 < limit)
number_takes w limit wide text x fits e =
    let front = take (byte_len w) text in
    let rest = drop (byte_len w) text in
    let g = none_or (ltb (length text) (byte_len w)) (from_be_bytes w front, rest) x e in
    let long : byte_len w ≤ length text = ltb-false _ _ g.0 in
    let whole : length front ≡ byte_len w = length-take-le (byte_len w) text long in
    let spelled : to_be_bytes w (from_be_bytes w front) ≡ front = wide.back front whole (IsBytes-take (byte_len w) text fits) in
    let takes : Takes text (to_be_bytes w (from_be_bytes w front)) rest = record { parts = rw spelled (sym (take-append-drop (byte_len w) text)); bytes = IsBytes-drop (byte_len w) text fits } in
    subst (λ (y : ℕ × List ℕ). Takes text (to_be_bytes w y.0) y.1 × (y.0 < limit)) g.1 (takes, wide.below front (IsBytes-take (byte_len w) text fits))

pub number_again : (w : Width) (limit : ℕ) (wide : IsWide w limit) (n : ℕ) (rest : List ℕ) → n < limit → number_at w (to_be_bytes w n ++ rest) ≡ Some (n, rest)
number_again w limit wide n rest lt =
    let len = wide.len n in
    let long : ltb (length (to_be_bytes w n ++ rest)) (byte_len w) ≡ false = le-ltb _ _ (omega (arith, length-append (to_be_bytes w n) rest)) in
    rw (long, take_at (to_be_bytes w n) rest (byte_len w) len, drop_at (to_be_bytes w n) rest (byte_len w) len, wide.again n lt) refl

-- ---- numbers in a range

pub within_takes : (low high : ℕ) (text : List ℕ) (x : ℕ × List ℕ) → IsBytes text → number_within low high text ≡ Some x → Takes text (to_be_bytes w32 x.0) x.1 × (low ≤ x.0) × (x.0 ≤ high)
within_takes low high text x fits e =
    let n = bind_some (number_at w32 text) (in_range low high) x e in
    let t = number_takes w32 (2 ^ 32) wide32 text n.0 fits n.1 in
    let r = some_or (nat_le low n.0.0 && nat_le n.0.0 high) n.0 x n.2 in
    let q = both (nat_le low n.0.0) (nat_le n.0.0 high) r.0 in
    subst (λ (y : ℕ × List ℕ). Takes text (to_be_bytes w32 y.0) y.1 × (low ≤ y.0) × (y.0 ≤ high)) r.1 (t.0, leb-true low n.0.0 q.0, leb-true n.0.0 high q.1)

pub within_again : (low high n : ℕ) (rest : List ℕ) → low ≤ n → n ≤ high → n < 2 ^ 32 → number_within low high (to_be_bytes w32 n ++ rest) ≡ Some (n, rest)
within_again low high n rest above below fits =
    let a : nat_le low n ≡ true = le-leb low n above in
    let b : nat_le n high ≡ true = le-leb n high below in
    rw (number_again w32 (2 ^ 32) wide32 n rest fits, a, b) refl

-- ---- names and clients

pub name_takes : (text : List ℕ) (x : Name × List ℕ) → IsBytes text → name_at text ≡ Some x → Takes text x.0.0 x.1 × (length x.0.0 ≡ 32)
name_takes text x fits e =
    let g = none_or (ltb (length text) 32) (record { 0 = take 32 text }, drop 32 text) x e in
    let long : 32 ≤ length text = ltb-false _ _ g.0 in
    let takes : Takes text (take 32 text) (drop 32 text) = record { parts = sym (take-append-drop 32 text); bytes = IsBytes-drop 32 text fits } in
    subst (λ (y : Name × List ℕ). Takes text y.0.0 y.1 × (length y.0.0 ≡ 32)) g.1 (takes, length-take-le 32 text long)

pub name_again : (name : Name) (rest : List ℕ) → length name.0 ≡ 32 → name_at (name.0 ++ rest) ≡ Some (name, rest)
name_again name rest len =
    let long : ltb (length (name.0 ++ rest)) 32 ≡ false = le-ltb _ _ (omega (arith, length-append name.0 rest)) in
    rw (long, take_at name.0 rest 32 len, drop_at name.0 rest 32 len) refl

pub client_takes : (text : List ℕ) (x : ClientId × List ℕ) → IsBytes text → client_at text ≡ Some x → Takes text (to_be_bytes w32 x.0.0) x.1 × (x.0.0 < CLIENTS)
unfolding client_at
client_takes text x fits e =
    let c = bind_some (number_within 0 (CLIENTS - 1) text) (λ n. Some (record { 0 = n.0 }, n.1)) x e in
    let t = within_takes 0 (CLIENTS - 1) text c.0 fits c.1 in
    let made : ClientId × List ℕ = (record { 0 = c.0.0 }, c.0.1) in
    subst (λ (y : ClientId × List ℕ). Takes text (to_be_bytes w32 y.0.0) y.1 × (y.0.0 < CLIENTS)) (some_same made x c.2) (t.0, omega (arith, t.2))

pub client_again : (client : ClientId) (rest : List ℕ) → client.0 < CLIENTS → client_at (to_be_bytes w32 client.0 ++ rest) ≡ Some (client, rest)
unfolding client_at
client_again client rest lt = rw (within_again 0 (CLIENTS - 1) client.0 rest (omega arith) (omega arith) (omega arith)) refl

-- ---- the laws

pub fields_spelled : FieldsSpelled
fields_spelled = record {
  byte = byte_takes;
  bytes = bytes_take;
  four = number_takes w32 (2 ^ 32) wide32;
  eight = number_takes w64 (2 ^ 64) wide64;
  within = within_takes;
  name = name_takes;
  client = client_takes;
}

pub fields_read : FieldsRead
fields_read = record {
  bytes = λ bytes rest. bytes_again (length bytes) bytes rest refl;
  four = number_again w32 (2 ^ 32) wide32;
  eight = number_again w64 (2 ^ 64) wide64;
  within = within_again;
  name = name_again;
  client = client_again;
}
