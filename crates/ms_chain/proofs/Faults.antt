-- The counts of faults of a desk's first lane do not fall from call to call.
use Rattle.std.proofs.Common.{◌≡◌, ◌≢◌, ℕ, zero, suc, ◌≤◌, List, [], ◌∷◌, Option, Some, None, refl, ap, subst, slice_get, slice_index_or, length, arith}
use Rattle.std.specs.Option.{option_map_or}
use Rattle.ms_link.specs.Composing.{rose_before, rose_on}
use Rattle.ms_link.specs.Links.{LinkView, Stays}
use Rattle.ms_local.specs.Desks.{DeskView, HasFault, LanesStay, LinksStay, faults_at, first_link}

link_faults : (a b : Option LinkView) → ((link : LinkView) → b ≡ Some link → (before : LinkView) × (a ≡ Some before) × Stays before link) → ((link : LinkView) → a ≡ Some link → b ≢ None)
    → option_map_or (λ (link : LinkView). link.faults) a 0 ≤ option_map_or (λ (link : LinkView). link.faults) b 0
link_faults None b each some = omega arith
link_faults (Some x) None each some = absurd (some x refl refl)
link_faults (Some x) (Some y) each some =
    let h = each y refl in
    let same : x ≡ h.0 = (let q : Some x ≡ Some h.0 = h.1 in cc) in
    omega (arith, h.2.later, ap (λ (l : LinkView). l.faults) same)

has_at : {X : Type 0} (xs ys : List X) (k : ℕ) (x : X) → length ys ≡ length xs → slice_get xs k ≡ Some x → slice_get ys k ≢ None
has_at [] ys k x same e n = absurd cc
has_at (z ∷ xs) [] k x same e n = absurd (omega (arith, same))
has_at (z ∷ xs) (y ∷ ys) zero x same e n = absurd cc
has_at (z ∷ xs) (y ∷ ys) (suc k) x same e n = has_at xs ys k x (omega (arith, same)) e n

first_links : (a b : List (List LinkView)) → LanesStay a b → LinksStay (slice_index_or a 0 []) (slice_index_or b 0 [])
first_links [] [] h = record { all = refl; each = λ place link at. absurd cc }
first_links [] (y ∷ b) h = absurd (omega (arith, h.all))
first_links (x ∷ a) [] h = absurd (omega (arith, h.all))
first_links (x ∷ a) (y ∷ b) h =
    let e = h.each 0 y refl in
    let same : e.0 ≡ x = (let q : Some x ≡ Some e.0 = e.1 in cc) in
    subst (λ (l : List LinkView). LinksStay l y) same e.2

faults_later : (a b : DeskView) (s : ℕ) → LanesStay a.lanes b.lanes → faults_at a s ≤ faults_at b s
faults_later a b s h =
    let links = first_links a.lanes b.lanes h in
    link_faults (first_link a s) (first_link b s) (λ link at. links.each s link at) (λ link at. has_at (slice_index_or a.lanes 0 []) (slice_index_or b.lanes 0 []) s link links.all at)

-- a fault between two moments is one between an earlier and a later one
pub fault_before : (a b c : DeskView) (s : ℕ) → LanesStay a.lanes b.lanes → HasFault b c s → HasFault a c s
fault_before a b c s h t = rose_before (faults_at a s) (faults_at b s) (faults_at c s) (faults_later a b s h) t

pub fault_on : (a b c : DeskView) (s : ℕ) → LanesStay b.lanes c.lanes → HasFault a b s → HasFault a c s
fault_on a b c s h t = rose_on (faults_at a s) (faults_at b s) (faults_at c s) t (faults_later b c s h)
