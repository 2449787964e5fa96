-- Services of the order that were asked one after the other.
use Rattle.std.proofs.Common.{◌≡◌, ◌⊎◌, ℕ, zero, suc, ◌+◌, ◌<◌, inl, inr, true, List, [], ◌∷◌, ◌++◌, Option, Some, None, Ok, Err, sym, ap, ◌∙◌, subst, length, map, take, slice_get, arith}
use Rattle.std.specs.Prelude.{Contains}
use Rattle.std.proofs.lemmas.List.{append-nil, length-append, map-append}
use Rattle.std.proofs.lemmas.List.Elements.{Contains-append_cases, Contains-append_right}
use Rattle.ms_base.specs.Places.{in_cases, in_here, in_later, in_none, map_has, take_next}
use Rattle.ms_base.specs.declared.names.Name.{Name}
use Rattle.ms_base.specs.declared.names.ServiceId.{ServiceId}
use Rattle.ms_core.specs.Views.{log_in}
use Rattle.ms_record.specs.declared.log.LogEvent.{LogEvent}
use Rattle.ms_record.specs.declared.log.LogEvent.TheVariants.{Drop, Put as Stored}
use Rattle.ms_record.specs.declared.refusal.Reason.TheVariants.{Absent, Altered, Failed}
use Rattle.ms_local.specs.declared.deed.Deed.{Deed}
use Rattle.ms_local.specs.declared.deed.Deed.TheVariants.{Got}
use Rattle.ms_local.specs.Calls.{DeskGoes}
use Rattle.ms_local.specs.Desks.{DeskView, HasFault}
use Rattle.ms_local.specs.Reading.{AreMadeGood}
use Rattle.ms_fetch.specs.declared.ask.Lack.{Lack}
use Rattle.ms_fetch.specs.declared.ask.Lack.TheVariants.{Stale, Unread}
use Rattle.ms_fetch.specs.Fetching.{Asks, AsksOne, Differ, Finds, found_deed}
use Rattle.ms_fetch.specs.Lacks.{Lacking, TrueLack, lack_deed, lacks_deeds}
use Rattle.ms_local.specs.Laying.{Lays, TellsObjects}

-- ---- what was given by no service is made good by the one that gave the bytes

in_take : (n : ℕ) (xs : List ServiceId) (x : ServiceId) → Contains (take n xs) x → (j : ℕ) × (j < n) × (slice_get xs j ≡ Some x)
in_take zero xs x there = absurd (in_none x there)
in_take (suc n) [] x there = absurd (in_none x there)
in_take (suc n) (y ∷ xs) x there = elim (in_cases y (take n xs) x there) [
  | inl same ↦ (0, omega arith, ap (λ (z : ServiceId). Some z) same)
  | inr later ↦ (let p = in_take n xs x later in (suc p.0, omega (arith, p.1), p.2))
]

nothing_behind : (front rest : List Deed) (deed : Deed) → [] ≡ front ++ deed ∷ rest → ⊥
nothing_behind front rest deed e = omega (arith, ap length e, length-append front (deed ∷ rest))

tail_of : (x y : Deed) (xs ys : List Deed) → x ∷ xs ≡ y ∷ ys → xs ≡ ys
tail_of x y xs ys e = cc e

head_of : (x y : Deed) (xs ys : List Deed) → x ∷ xs ≡ y ∷ ys → x ≡ y
head_of x y xs ys e = cc e

-- a deed of these is the last, or one of a lack with the last behind it
split_at : (f : Lacking → Deed) (last : Deed) (lacks : List Lacking) (front rest : List Deed) (deed : Deed) → map f lacks ++ last ∷ [] ≡ front ++ deed ∷ rest
    → ((l : Lacking) × Contains lacks l × (f l ≡ deed) × Contains rest last) ⊎ (last ≡ deed)
split_at f last [] [] rest deed e = inr (head_of last deed [] rest e)
split_at f last [] (x ∷ front) rest deed e = absurd (nothing_behind front rest deed (tail_of last x [] (front ++ deed ∷ rest) e))
split_at f last (l ∷ lacks) [] rest deed e = inl (
  l,
  in_here l lacks,
  head_of (f l) deed (map f lacks ++ last ∷ []) rest e,
  subst (λ (ds : List Deed). Contains ds last) (tail_of (f l) deed (map f lacks ++ last ∷ []) rest e) (Contains-append_right (map f lacks) (last ∷ []) last (in_here last [])),
)
split_at f last (l ∷ lacks) (x ∷ front) rest deed e = elim (split_at f last lacks front rest deed (tail_of (f l) x (map f lacks ++ last ∷ []) (front ++ deed ∷ rest) e)) [
  | inl h ↦ inl (h.0, in_later l lacks h.0 h.1, h.2, h.3)
  | inr same ↦ inr same
]

module _ (generation : ℕ) (name : Name) where
  parts : (s other : ServiceId) (lack : Lack) (g : ℕ) (n : Name) (found : Option Name) → lack_deed generation name s lack ≡ Got other g n found true None → (s ≡ other) × (name ≡ n)
  parts s other (Unread Failed) g n found e = absurd (cc e)
  parts s other (Unread Absent) g n found e = (cc e, cc e)
  parts s other (Unread (Altered x)) g n found e = (cc e, cc e)
  parts s other (Stale floor) g n found e = absurd (cc e)

  not_other : (s other : ServiceId) (g : ℕ) (n : Name) (found : Option Name) → found_deed generation name s ≡ Got other g n found true None → found ≡ Some n
  not_other s other g n found e = cc e

  pub made_good : (order : List ServiceId) (lacks : List Lacking) (service : ServiceId) → Differ order → map (λ (l : Lacking). l.service) lacks ≡ take (length lacks) order → slice_get order (length lacks) ≡ Some service
      → AreMadeGood (lacks_deeds generation name lacks ++ found_deed generation name service ∷ [])
  made_good order lacks service differ first next front rest deed gave e = elim (split_at (λ (l : Lacking). lack_deed generation name l.service l.lack) (found_deed generation name service) lacks front rest deed e) [
    | inr last ↦ absurd (gave.other (not_other service gave.service gave.generation gave.name gave.found (last ∙ gave.is)))
    | inl h ↦
        let p = parts h.0.service gave.service h.0.lack gave.generation gave.name gave.found (h.2 ∙ gave.is) in
        let at = in_take (length lacks) order h.0.service (subst (λ (xs : List ServiceId). Contains xs h.0.service) first (map_has (λ (l : Lacking). l.service) lacks h.0 h.1)) in
        record {
          other = service;
          generation = generation;
          found = Some name;
          ok = true;
          floor = None;
          there = subst (λ (n : Name). Contains rest (Got service generation n (Some name) true None)) p.1 h.3;
          elsewhere = λ same.
              let e' = differ at.0 (length lacks) h.0.service at.2 (next ∙ ap (λ (s : ServiceId). Some s) (same ∙ sym p.0)) in
              absurd (omega (arith, at.1, e'));
        }
  ]

-- ---- from one service to the next

module _ (events : (old new : DeskView) (service : ℕ) (event : LogEvent) → DeskGoes old new → Contains (log_in old.pass.lists service) event → Contains (log_in new.pass.lists service) event)
    (wider : (old low high new : DeskView) (service : ℕ) → DeskGoes old low → DeskGoes high new → HasFault low high service → HasFault old new service)
    (nothing : (desk : DeskView) → DeskGoes desk desk)
    (tells : (old new : DeskView) (s : ℕ) → DeskGoes old new → TellsObjects old s → TellsObjects new s)
    (on : (old mid new : DeskView) (deeds more : List Deed) → Lays old mid deeds → Lays mid new more → Lays old new (deeds ++ more))
    (generation : ℕ) (name : Name) (old mid new : DeskView) where
  -- a lack stays true, and is one from before
  lack_later : (s : ServiceId) (lack : Lack) → DeskGoes mid new → TrueLack old mid generation name s lack → TrueLack old new generation name s lack
  lack_later s (Unread Failed) goes h = wider old old mid new s.0 (nothing old) goes h
  lack_later s (Unread Absent) goes h = h
  lack_later s (Unread (Altered found)) goes h = h
  lack_later s (Stale floor) goes h = (h.0, λ setting known. events mid new s.0 (Drop floor) goes (h.1 setting known))

  lack_before : (s : ServiceId) (lack : Lack) (deeds : List Deed) → Lays old mid deeds → TrueLack mid new generation name s lack → TrueLack old new generation name s lack
  lack_before s (Unread Failed) deeds lays h = wider old mid new new s.0 lays.effect (nothing new) h
  lack_before s (Unread Absent) deeds lays h = λ told setting known put.
      h (tells old mid s.0 lays.effect told) setting (lays.told setting known) (put.0, events old mid s.0 (Stored generation name put.0) lays.effect put.1)
  lack_before s (Unread (Altered found)) deeds lays h = (h.0, λ told setting known. h.1 (tells old mid s.0 lays.effect told) setting (lays.told setting known))
  lack_before s (Stale floor) deeds lays h = (h.0, λ setting known. h.1 setting (lays.told setting known))

  module _ (order : List ServiceId) (lacks : List Lacking) (h : Asks generation order name old mid lacks []) where
    lays_more : (more : List Deed) → Lays mid new more → Lays old new (lacks_deeds generation name lacks ++ more)
    lays_more more k = subst (λ (ds : List Deed). Lays old new (ds ++ more)) (append-nil (lacks_deeds generation name lacks)) (on old mid new (lacks_deeds generation name lacks ++ []) more h.lays k)

    pub asks_cut : Lays mid new [] → Asks generation order name old new lacks []
    asks_cut k = record { first = h.first; true_lacks = λ l there. lack_later l.service l.lack k.effect (h.true_lacks l there); lays = lays_more [] k }

    module _ (s : ServiceId) (next : slice_get order (length lacks) ≡ Some s) where
      pub asks_next : (lack : Lack) → AsksOne mid new generation name s (Ok (Err lack)) → (let l : Lacking = record { service = s; lack = lack } in Asks generation order name old new (lacks ++ l ∷ []) [])
      asks_next lack k =
          let l : Lacking = record { service = s; lack = lack } in
          let many : length (lacks ++ l ∷ []) ≡ length lacks + 1 = length-append lacks (l ∷ []) in
          record {
            first = map-append (λ (x : Lacking). x.service) lacks (l ∷ [])
                ∙ (ap (λ (xs : List ServiceId). xs ++ s ∷ []) h.first ∙ (sym (take_next order (length lacks) s next) ∙ ap (λ (n : ℕ). take n order) (sym many)));
            true_lacks = λ x there. elim (Contains-append_cases lacks (l ∷ []) x there) [
              | inl before ↦ lack_later x.service x.lack k.1.effect (h.true_lacks x before)
              | inr here ↦ subst (λ (y : Lacking). TrueLack old new generation name y.service y.lack) (elim (in_cases l [] x here) [ inl same ↦ same | inr later ↦ absurd (in_none x later) ])
                  (lack_before s lack (lacks_deeds generation name lacks ++ []) h.lays k.0)
            ];
            lays = subst (Lays old new) (sym (append-nil (lacks_deeds generation name (lacks ++ l ∷ [])) ∙ map-append (λ (x : Lacking). lack_deed generation name x.service x.lack) lacks (l ∷ [])))
                (lays_more (lack_deed generation name s lack ∷ []) k.1);
          }

      pub finds : (text : List ℕ) → Differ order → AsksOne mid new generation name s (Ok (Ok text)) → Finds generation order name old new text
      finds text differ k = record {
        lacks = lacks;
        service = s;
        next = next;
        asks = record { first = h.first; true_lacks = λ l there. lack_later l.service l.lack k.1.effect (h.true_lacks l there); lays = lays_more (found_deed generation name s ∷ []) k.1 };
        named = k.0;
        made_good = made_good generation name order lacks s differ h.first next;
      }
