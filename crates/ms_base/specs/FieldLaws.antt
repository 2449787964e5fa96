-- Reading and spelling of fields undo each other.
use Rattle.std.specs.Prelude.{◌≡◌, ℕ, ◌^◌, ◌<◌, ◌≤◌, List, [], ◌∷◌, ◌++◌, length, Some}
use Rattle.std.proofs.Common.{refl, sym, ap, ◌∙◌, suc, append_assoc, append-nil}
use Rattle.std.specs.Int.{w32, w64, to_be_bytes}
use Rattle.ms_base.specs.declared.limits.TheConstants.{CLIENTS}
use Rattle.ms_base.specs.declared.names.Name.{Name}
use Rattle.ms_base.specs.declared.names.ClientId.{ClientId}
use Rattle.ms_base.specs.Fields.{IsBytes, byte_at, bytes_at, number_at, number_within, name_at, client_at, at_end}
use Rattle.ms_base.specs.Places.{some_same}

-- a text begins with this spelling, and goes on with bytes
pub record Takes (text spelled rest : List ℕ) : Type 0 where
  pub parts : text ≡ spelled ++ rest
  pub bytes : IsBytes rest

-- what is read at the front of a text of bytes is spelled there
pub record FieldsSpelled : Type 0 where
  pub byte : (text : List ℕ) (x : ℕ × List ℕ) → IsBytes text → byte_at text ≡ Some x → Takes text (x.0 ∷ []) x.1
  pub bytes : (count : ℕ) (text : List ℕ) (x : List ℕ × List ℕ) → IsBytes text → bytes_at count text ≡ Some x → Takes text x.0 x.1 × (length x.0 ≡ count)
  pub four : (text : List ℕ) (x : ℕ × List ℕ) → IsBytes text → number_at w32 text ≡ Some x → Takes text (to_be_bytes w32 x.0) x.1 × (x.0 < 2 ^ 32)
  pub eight : (text : List ℕ) (x : ℕ × List ℕ) → IsBytes text → number_at w64 text ≡ Some x → Takes text (to_be_bytes w64 x.0) x.1 × (x.0 < 2 ^ 64)
  pub within : (low high : ℕ) (text : List ℕ) (x : ℕ × List ℕ) → IsBytes text → number_within low high text ≡ Some x
      → Takes text (to_be_bytes w32 x.0) x.1 × (low ≤ x.0) × (x.0 ≤ high)
  pub name : (text : List ℕ) (x : Name × List ℕ) → IsBytes text → name_at text ≡ Some x → Takes text x.0.0 x.1 × (length x.0.0 ≡ 32)
  pub client : (text : List ℕ) (x : ClientId × List ℕ) → IsBytes text → client_at text ≡ Some x → Takes text (to_be_bytes w32 x.0.0) x.1 × (x.0.0 < CLIENTS)

-- what is spelled at the front of a text is read there
pub record FieldsRead : Type 0 where
  pub bytes : (bytes rest : List ℕ) → bytes_at (length bytes) (bytes ++ rest) ≡ Some (bytes, rest)
  pub four : (n : ℕ) (rest : List ℕ) → n < 2 ^ 32 → number_at w32 (to_be_bytes w32 n ++ rest) ≡ Some (n, rest)
  pub eight : (n : ℕ) (rest : List ℕ) → n < 2 ^ 64 → number_at w64 (to_be_bytes w64 n ++ rest) ≡ Some (n, rest)
  pub within : (low high n : ℕ) (rest : List ℕ) → low ≤ n → n ≤ high → n < 2 ^ 32 → number_within low high (to_be_bytes w32 n ++ rest) ≡ Some (n, rest)
  pub name : (name : Name) (rest : List ℕ) → length name.0 ≡ 32 → name_at (name.0 ++ rest) ≡ Some (name, rest)
  pub client : (client : ClientId) (rest : List ℕ) → client.0 < CLIENTS → client_at (to_be_bytes w32 client.0 ++ rest) ≡ Some (client, rest)

-- ---- what is read in turn

pub ended : {A : Type 0} (x : A × List ℕ) (y : A) → at_end x ≡ Some y → (x.0 ≡ y) × (x.1 ≡ [])
ended (a, []) y e = (some_same a y e, refl)
ended (a, b ∷ rest) y e = absurd cc

pub IsBytes-rest : (b : ℕ) (text : List ℕ) → IsBytes (b ∷ text) → IsBytes text
IsBytes-rest b text h i = h (suc i)

pub Takes-then : (a x b y c : List ℕ) → Takes a x b → Takes b y c → Takes a (x ++ y) c
Takes-then a x b y c p q = record { parts = p.parts ∙ ap (λ (t : List ℕ). x ++ t) q.parts ∙ sym (append_assoc x y c); bytes = q.bytes }

-- nothing is left behind the spelling
pub Takes-all : (text spelled rest : List ℕ) → Takes text spelled rest → rest ≡ [] → text ≡ spelled
Takes-all text spelled rest h none = h.parts ∙ ap (λ (r : List ℕ). spelled ++ r) none ∙ append-nil spelled
