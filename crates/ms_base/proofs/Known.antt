-- Known bytes over several calls.
use Rattle.std.proofs.Common.{◌≡◌, ℕ, ◌+◌, ◌-◌, ◌<◌, ◌≤◌, List, [], ◌++◌, length, take, drop, Option, Some, None, refl, sym, ap, ◌∙◌, append_assoc, arith, length-append}
use Rattle.std.specs.Prelude.{IfSome, Err}
use Rattle.std.proofs.Common.{append-nil}
use Rattle.std.proofs.lemmas.List.{take_at, take_rest, take-append-drop, drop-drop, length-take-le}
use Rattle.std.specs.Io.KnownBytes.{Appends, Consumes, Keeps}
use Rattle.ms_base.specs.declared.outside.ReadError.{ReadError}
use Rattle.ms_base.specs.declared.outside.ReadError.TheVariants as errors
use Rattle.ms_base.specs.Outside.{SourceView}
use Rattle.ms_base.specs.Reading.{ReadsAll, ReadsPiece}

-- one call, and then another
pub consumes_on : (a b c : Option (List ℕ)) (front more : List ℕ) → Consumes a b front → Consumes b c more → Consumes a c (front ++ more)
consumes_on None b c front more h k = tt
consumes_on (Some xs) None c front more h k = absurd h
consumes_on (Some xs) (Some ys) None front more h k = absurd k
consumes_on (Some xs) (Some ys) (Some zs) front more h k = h ∙ ap (λ (r : List ℕ). front ++ r) k ∙ sym (append_assoc front more zs)

pub consumes_kept : (a b c : Option (List ℕ)) (front : List ℕ) → Consumes a b front → Keeps b c → Consumes a c front
consumes_kept None b c front h k = tt
consumes_kept (Some xs) None c front h k = absurd h
consumes_kept (Some xs) (Some ys) None front h k = absurd k
consumes_kept (Some xs) (Some ys) (Some zs) front h k = h ∙ ap (λ (r : List ℕ). front ++ r) (sym k)

pub consumes_none : (a : Option (List ℕ)) → Consumes a a []
consumes_none None = tt
consumes_none (Some xs) = refl

-- more came than this
pub consumed_more : (a b : Option (List ℕ)) (front : List ℕ) (limit : ℕ) → Consumes a b front → limit < length front → IfSome a (λ left. limit < length left)
consumed_more None b front limit h l = tt
consumed_more (Some xs) None front limit h l = absurd h
consumed_more (Some xs) (Some ys) front limit h l = omega (arith, ap length h, length-append front ys)

pub appends_on : (a b c : Option (List ℕ)) (front more : List ℕ) → Appends a b front → Appends b c more → Appends a c (front ++ more)
appends_on None b c front more h k = tt
appends_on (Some xs) None c front more h k = absurd h
appends_on (Some xs) (Some ys) None front more h k = absurd k
appends_on (Some xs) (Some ys) (Some zs) front more h k = k ∙ ap (λ (r : List ℕ). r ++ more) h ∙ append_assoc xs front more

pub appends_kept : (a b c : Option (List ℕ)) (front : List ℕ) → Appends a b front → Keeps b c → Appends a c front
appends_kept None b c front h k = tt
appends_kept (Some xs) None c front h k = absurd h
appends_kept (Some xs) (Some ys) None front h k = absurd k
appends_kept (Some xs) (Some ys) (Some zs) front h k = k ∙ h

pub appends_none : (a : Option (List ℕ)) → Appends a a []
appends_none None = tt
appends_none (Some xs) = sym (append-nil xs)

-- a piece that was copied out, and what is left
pub read_step : (text into front : List ℕ) (at n : ℕ) → length front ≡ length (take n into) → n ≤ length into → front ≡ take n (take (length text - at) (drop at text)) → drop at text ≡ take n (front ++ drop n into) ++ drop (at + n) text
read_step text into front at n len room is =
    let whole : length front ≡ n = len ∙ length-take-le n into room in
    rw (take_at front (drop n into) n whole, is, take_rest text at, ← drop-drop n at text) (sym (take-append-drop n (drop at text)))

-- a piece that was refused ends the reading
pub piece_ends : (limit room : ℕ) (old mid new : SourceView) (text after : List ℕ) (e : ReadError)
    → Consumes old.left mid.left text → ReadsPiece room mid new text after (Err e) → length text < limit + 1 → length text + room ≤ limit + 1 → old.faults ≤ mid.faults
    → ReadsAll limit old new (Err e)
piece_ends limit room old mid new text after errors.NoMemory came h few most later =
    (text ++ h.1, record { few = omega (arith, length-append text h.1, h.2); bytes = consumes_on _ _ _ _ _ came h.3 })
piece_ends limit room old mid new text after errors.Failed came h few most later =
    let rose = h.1 in (omega (arith, rose), text, record { few = omega arith; bytes = consumes_kept _ _ _ _ came h.2 })
piece_ends limit room old mid new text after (errors.TooLong bytes) came h few most later = absurd h
