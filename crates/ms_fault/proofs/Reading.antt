-- What a reading call of the link inside says of the link with faults.
use Rattle.std.proofs.Common.{◌≡◌, ℕ, zero, suc, ◌&&◌, Bool, true, false, List, [], ◌∷◌, Option, Some, None, Result, Ok, Err, refl, sym, ap, ◌∙◌, subst, slice_index_or}
use Rattle.std.specs.List.{list_all}
use Rattle.ms_base.specs.declared.names.Name.{Name}
use Rattle.ms_fault.proofs.Inside.{both_first, passes_out, counts_failed}
use Rattle.ms_fault.specs.declared.fault.Fault.{Fault}
use Rattle.ms_fault.specs.declared.fault.Fault.TheVariants as faults
use Rattle.ms_fault.specs.Faults.{FaultView, link_of, due, shows_kept, faults_after, HasBy, GetsBy}
use Rattle.ms_ken.specs.Known.{Known}
use Rattle.ms_link.specs.Composing.{has_on, gets_on, lists_out, has_out, gets_out}
use Rattle.ms_link.specs.declared.fault.LinkError.{LinkError}
use Rattle.ms_link.specs.declared.fault.LinkError.TheVariants as errors
use Rattle.ms_link.specs.Links.{LinkView, Stays, Lists, Has, Gets}
use Rattle.ms_record.specs.declared.item.Item.{Item}

both_second : (a b : Bool) → (a && b) ≡ true → b ≡ true
both_second true b h = h
both_second false b h = absurd (let q : false ≡ true = h in cc)

at_shows : (script : List Fault) (rest : Fault) (at : ℕ) → list_all shows_kept script ≡ true → shows_kept rest ≡ true → shows_kept (slice_index_or script at rest) ≡ true
at_shows [] rest at all last = last
at_shows (fault ∷ script) rest zero all last = both_first (shows_kept fault) (list_all shows_kept script) all
at_shows (fault ∷ script) rest (suc at) all last = at_shows script rest at (both_second (shows_kept fault) (list_all shows_kept script) all) last

-- where the objects are told, what the fault that is due hands out is kept
pub due_shows : (f : FaultView) → (link_of f).objects ≡ true → shows_kept (due f) ≡ true
due_shows f objects =
    let all = both_second f.inner.objects (list_all shows_kept f.script && shows_kept f.rest) objects in
    at_shows f.script f.rest f.at (both_first (list_all shows_kept f.script) (shows_kept f.rest) all) (both_second (list_all shows_kept f.script) (shows_kept f.rest) all)

-- ---- the answers of the link inside, as the link's with faults

pub lists_inside : (old new : FaultView) (known : Known Item) (list from : ℕ) (r : Result (List (List ℕ)) LinkError) → new.faults ≡ faults_after old.faults r → Lists old.inner new.inner known list from r → Lists (link_of old) (link_of new) known list from r
lists_inside old new known list from r count h = lists_out old.inner new.inner (link_of old) (link_of new) known list from r (passes_out old) (counts_failed old new r count) h

pub has_inside : (old new : FaultView) (known : Known Item) (generation : ℕ) (name : Name) (r : Result Bool LinkError) → new.faults ≡ faults_after old.faults r → Has old.inner new.inner known generation name r
    → Has (link_of old) (link_of new) known generation name r
has_inside old new known generation name r count h = has_out old.inner new.inner (link_of old) (link_of new) known generation name r (passes_out old) (counts_failed old new r count) h

pub gets_inside : (old new : FaultView) (known : Known Item) (generation : ℕ) (name : Name) (r : Result (Option (List ℕ)) LinkError) → new.faults ≡ faults_after old.faults r → Gets old.inner new.inner known generation name r
    → Gets (link_of old) (link_of new) known generation name r
gets_inside old new known generation name r count h = gets_out old.inner new.inner (link_of old) (link_of new) known generation name r (passes_out old) (counts_failed old new r count) h

-- ---- a call that was passed on and counted

counted_on : {A : Type 0} (inside met old now : ℕ) (r other : Result A LinkError) → now ≡ faults_after inside r → inside ≡ met → met ≡ old → other ≡ r → now ≡ faults_after old other
counted_on {A} inside met old now r other count one two same = count ∙ ap (λ (n : ℕ). faults_after n r) (one ∙ two) ∙ ap (λ (x : Result A LinkError). faults_after old x) (sym same)

pub has_asked : (old met new : FaultView) (inside asked : LinkView) (known : Known Item) (generation : ℕ) (name : Name) (r other : Result Bool LinkError) → Stays old.inner met.inner → inside ≡ met.inner → new.inner ≡ asked → other ≡ r
    → Has inside asked known generation name r → Has old.inner new.inner known generation name other
has_asked old met new inside asked known generation name r other stays before after same h =
    has_on old.inner met.inner new.inner known generation name other stays
    (subst (λ (l : LinkView). Has l new.inner known generation name other) before
    (subst (λ (l : LinkView). Has inside l known generation name other) (sym after) (subst (λ (x : Result Bool LinkError). Has inside asked known generation name x) (sym same) h)))

pub has_counted : (old met new : FaultView) (inside : ℕ) (known : Known Item) (generation : ℕ) (name : Name) (r other : Result Bool LinkError) → new.faults ≡ faults_after inside r → inside ≡ met.faults → met.faults ≡ old.faults → other ≡ r
    → Has old.inner new.inner known generation name other → Has (link_of old) (link_of new) known generation name other
has_counted old met new inside known generation name r other count one two same h =
    has_inside old new known generation name other (counted_on inside met.faults old.faults new.faults r other count one two same) h

pub has_passed : (fault : Fault) (old new : FaultView) (k0 k1 : Known Item) (generation : ℕ) (name : Name) (r : Result Bool LinkError) → fault ≡ due old → (fault ≡ faults.Lose → ⊥) → (fault ≡ faults.ActThenFail → ⊥) → (fault ≡ faults.Gone → ⊥)
    → Has old.inner new.inner k1 generation name r → HasBy (due old) old new k0 k1 generation name r
has_passed fault old new k0 k1 generation name r is lose act gone h = subst (λ (f : Fault). HasBy f old new k0 k1 generation name r) is (by fault lose act gone)
  where
    by : (fault : Fault) → (fault ≡ faults.Lose → ⊥) → (fault ≡ faults.ActThenFail → ⊥) → (fault ≡ faults.Gone → ⊥) → HasBy fault old new k0 k1 generation name r
    by faults.Pass lose act gone = h
    by faults.Lose lose act gone = absurd (lose refl)
    by faults.ActThenFail lose act gone = absurd (act refl)
    by faults.Repeat lose act gone = h
    by (faults.Late after) lose act gone = h
    by faults.Alter lose act gone = h
    by faults.Gone lose act gone = absurd (gone refl)

pub gets_asked : (old met new : FaultView) (inside asked : LinkView) (known : Known Item) (generation : ℕ) (name : Name) (r other : Result (Option (List ℕ)) LinkError) → Stays old.inner met.inner → inside ≡ met.inner → new.inner ≡ asked → other ≡ r
    → Gets inside asked known generation name r → Gets old.inner new.inner known generation name other
gets_asked old met new inside asked known generation name r other stays before after same h =
    gets_on old.inner met.inner new.inner known generation name other stays
    (subst (λ (l : LinkView). Gets l new.inner known generation name other) before
    (subst (λ (l : LinkView). Gets inside l known generation name other) (sym after) (subst (λ (x : Result (Option (List ℕ)) LinkError). Gets inside asked known generation name x) (sym same) h)))

pub gets_counted : (old met new : FaultView) (inside : ℕ) (known : Known Item) (generation : ℕ) (name : Name) (r other : Result (Option (List ℕ)) LinkError) → new.faults ≡ faults_after inside r → inside ≡ met.faults → met.faults ≡ old.faults → other ≡ r
    → Gets old.inner new.inner known generation name other → Gets (link_of old) (link_of new) known generation name other
gets_counted old met new inside known generation name r other count one two same h =
    gets_inside old new known generation name other (counted_on inside met.faults old.faults new.faults r other count one two same) h

pub gets_passed : (fault : Fault) (old new : FaultView) (k0 k1 : Known Item) (generation : ℕ) (name : Name) (r : Result (Option (List ℕ)) LinkError) → fault ≡ due old → (fault ≡ faults.Lose → ⊥) → (fault ≡ faults.ActThenFail → ⊥) → (fault ≡ faults.Alter → ⊥)
    → (fault ≡ faults.Gone → ⊥) → Gets old.inner new.inner k1 generation name r → GetsBy (due old) old new k0 k1 generation name r
gets_passed fault old new k0 k1 generation name r is lose act alter gone h = subst (λ (f : Fault). GetsBy f old new k0 k1 generation name r) is (by fault lose act alter gone)
  where
    by : (fault : Fault) → (fault ≡ faults.Lose → ⊥) → (fault ≡ faults.ActThenFail → ⊥) → (fault ≡ faults.Alter → ⊥) → (fault ≡ faults.Gone → ⊥) → GetsBy fault old new k0 k1 generation name r
    by faults.Pass lose act alter gone = h
    by faults.Lose lose act alter gone = absurd (lose refl)
    by faults.ActThenFail lose act alter gone = absurd (act refl)
    by faults.Repeat lose act alter gone = h
    by (faults.Late after) lose act alter gone = h
    by faults.Alter lose act alter gone = absurd (alter refl)
    by faults.Gone lose act alter gone = absurd (gone refl)

pub gets_altered : (fault : Fault) (old new : FaultView) (k0 k1 : Known Item) (generation : ℕ) (name : Name) (e : LinkError) → fault ≡ faults.Alter → fault ≡ due old → Gets old.inner new.inner k1 generation name (Err e)
    → GetsBy (due old) old new k0 k1 generation name (Err e)
gets_altered fault old new k0 k1 generation name e alter is h = subst (λ (f : Fault). GetsBy f old new k0 k1 generation name (Err e)) (sym alter ∙ is) h

-- an altered text is handed out only where the objects are not told
pub alter_hides : {P : Type 0} (f : FaultView) → due f ≡ faults.Alter → (link_of f).objects ≡ true → P
alter_hides f is objects = absurd (let q : false ≡ true = sym (ap shows_kept is) ∙ due_shows f objects in cc)
