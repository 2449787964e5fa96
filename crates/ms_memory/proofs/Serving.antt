-- Passes of a service and of its caller: what they know after they met, and after the service told.
use Rattle.std.proofs.Common.{◌≡◌, inl, inr, ℕ, ◌<◌, ◌≤◌, List, [], ◌∷◌, ◌++◌, length, Option, Some, None, refl, sym, ap, ◌∙◌, subst, arith}
use Rattle.std.proofs.lemmas.List.Elements.{filter_map-append}
use Rattle.std.specs.Prelude.{IfSome, IsTrue, ◌↔◌, is_some}
use mathlib.Core.List.{IsPrefix}
use Rattle.ms_base.specs.declared.names.Name.{Name}
use Rattle.ms_record.specs.Floors.{IsFloor, none_above}
use Rattle.ms_core.specs.Views.{View, configuration, log_in}
use Rattle.ms_ken.specs.Known.{TableId, Known}
use Rattle.ms_ken.specs.Lists.{list_at, Begins, MayFollow, longer_lists, with_told}
use Rattle.ms_ken.specs.Prefixes.{longer_of_prefix, prefix_length}
use Rattle.ms_ken.specs.Rows.{begins_told, begins_trans, item_here, list_at-longer_lists}
use Rattle.ms_memory.proofs.Holding.{first_has}
use Rattle.ms_memory.specs.Served.{Agrees, IsTakenBy, LearnsEvent, served}
use Rattle.ms_memory.specs.Shelves.{Holds, IsFirstPut, IsOpenTo}
use Rattle.ms_memory.specs.declared.shelf.Shelf.{Shelf}
use Rattle.ms_record.specs.declared.item.Item.{Item}
use Rattle.ms_record.specs.declared.item.Item.TheVariants.{Log}
use Rattle.ms_record.specs.declared.log.LogEvent.{LogEvent}
use Rattle.ms_record.specs.declared.log.LogEvent.TheVariants.{Rec, Put, Drop}
use Rattle.ms_record.specs.Items.{event_in, events_of}
use Rattle.ms_record.specs.Logs.{HasPut, NoDropAbove}

pub owned : (P : ℕ → Type 0) (word : Option ℕ) (service : ℕ) → word ≡ Some service → IfSome word P → P service
owned P word service is h = subst (λ (w : Option ℕ). IfSome w P) is h

-- what the configuration told stays known
pub told_stays : (old new : View) → Begins old new → 0 < length (list_at old configuration) → 0 < length (list_at new configuration)
told_stays old new begins some = let longer = prefix_length (list_at old configuration) (list_at new configuration) (begins configuration) in omega arith

-- what is kept agrees with a pass that knows more
pub agrees_more : (board : TableId) (service : ℕ) (shelf more : Shelf) (old new : Known Item) → Agrees board service shelf old → new.board ≡ old.board → new.word ≡ old.word
    → Begins old.lists new.lists → Holds more (log_in new.lists service) → Agrees board service more new
agrees_more board service shelf more old new h same_board same_word begins holds = record {
  on_board = same_board ∙ h.on_board;
  owns = same_word ∙ h.owns;
  told = told_stays old.lists new.lists begins h.told;
  holds = holds;
}

-- the event may be told by the pass that owns the service's word, once it knows what its caller knew
pub may_tell : (closed : View → Type 0) (n : ℕ) (known lists : View) (service number : ℕ) (word : Option ℕ) (item : Item) → MayFollow closed n known number item → service ≡ number
    → word ≡ Some service → length lists ≡ n → closed lists → Begins known lists → closed (with_told lists word item)
may_tell closed n known lists service number word item follows same is wide all begins =
    subst (λ (w : Option ℕ). closed (with_told lists w item)) (sym (is ∙ ap (λ k. Some k) same)) (follows lists wide all begins)

-- the log of a list with one event more
pub log_more : (items : List Item) (event : LogEvent) → events_of (items ++ Log event ∷ []) ≡ events_of items ++ event ∷ []
log_more items event = filter_map-append event_in items (Log event ∷ [])

-- the list of the word on which an item was told
pub told_here : (lists : View) (word : Option ℕ) (service n : ℕ) (item : Item) → word ≡ Some service → length lists ≡ n → IfSome word (λ k. k < n)
    → list_at (with_told lists word item) service ≡ list_at lists service ++ item ∷ []
told_here lists word service n item is wide within =
    let lt : service < length lists = subst (λ (m : ℕ). service < m) (sym wide) (owned (λ k. k < n) word service is within) in
    ap (λ (w : Option ℕ). list_at (with_told lists w item) service) is ∙ item_here lists service item lt

-- who takes a note of the told lists knows them
pub learnt_here : (lists : View) (word : Option ℕ) (service n : ℕ) (item : Item) → word ≡ Some service → length lists ≡ n → IfSome word (λ k. k < n)
    → list_at (longer_lists lists (with_told lists word item)) service ≡ list_at lists service ++ item ∷ []
learnt_here lists word service n item is wide within =
    let there = told_here lists word service n item is wide within in
    let begins : IsPrefix (list_at lists service) (list_at (with_told lists word item) service) = subst (λ l. IsPrefix (list_at lists service) l) (sym there) (item ∷ [], refl) in
    list_at-longer_lists lists (with_told lists word item) service ∙ (longer_of_prefix (list_at lists service) (list_at (with_told lists word item) service) begins ∙ there)

-- what is kept agrees with the pass that told the event, and its log has the event at its end
pub told_agrees : (board : TableId) (service : ℕ) (shelf more : Shelf) (old one told : Known Item) (event : LogEvent) → Agrees board service shelf old → one.board ≡ old.board → one.word ≡ old.word
    → Begins old.lists one.lists → list_at one.lists service ≡ list_at old.lists service → length one.lists ≡ one.board.words → IfSome one.word (λ k. k < one.board.words)
    → told ≡ record one { lists = with_told one.lists one.word (Log event) } → ((log : List LogEvent) → Holds shelf log → Holds more (log ++ event ∷ []))
    → Agrees board service more told × (log_in told.lists service ≡ log_in old.lists service ++ event ∷ [])
told_agrees board service shelf more old one told event h same_board same_word begins own wide within is keeps =
    let here : list_at told.lists service ≡ list_at one.lists service ++ Log event ∷ [] =
    ap (λ p. list_at p.lists service) is ∙ told_here one.lists one.word service one.board.words (Log event) (same_word ∙ h.owns) wide within in
    let log : log_in told.lists service ≡ log_in old.lists service ++ event ∷ [] = ap events_of (here ∙ ap (λ l. l ++ Log event ∷ []) own) ∙ log_more (list_at old.lists service) event in
    let grown : Begins one.lists told.lists = subst (λ (p : Known Item). Begins one.lists p.lists) (sym is) (begins_told one.lists one.word (Log event)) in
    let holds : Holds more (log_in told.lists service) = subst (λ (l : List LogEvent). Holds more l) (sym log) (keeps (log_in old.lists service) h.holds) in (
      agrees_more board service shelf more old told h (ap (λ p. p.board) is ∙ same_board) (ap (λ p. p.word) is ∙ same_word) (begins_trans old.lists one.lists told.lists begins grown) holds,
      log,
    )

-- the caller takes a note of the pass that told the event
pub learns_event : (service : ℕ) (old one caller new : Known Item) (lists : View) (event : LogEvent) → one.word ≡ Some service → list_at one.lists service ≡ list_at old.lists service
    → length one.lists ≡ one.board.words → IfSome one.word (λ k. k < one.board.words) → Begins caller.lists one.lists → lists ≡ one.lists
    → new.lists ≡ longer_lists lists (with_told one.lists one.word (Log event)) → LearnsEvent (served service (log_in old.lists service)) caller new event
learns_event service old one caller new lists event word own wide within begins met is = record {
  before = list_at one.lists service;
  log = ap events_of own;
  knew = begins service;
  stands =
      ap (λ l. list_at l service) (is ∙ ap (λ l. longer_lists l (with_told one.lists one.word (Log event))) met)
      ∙ learnt_here one.lists one.word service one.board.words (Log event) word wide within;
}

-- ---- the floor and the generations

pub taken_by : (log : List LogEvent) (floor : ℕ) (event : LogEvent) → IsFloor log floor → IsOpenTo floor event → IsTakenBy log event
taken_by log floor (Rec list text) h open_ = tt
taken_by log floor (Put generation name text) h open_ = none_above log floor generation h open_
taken_by log floor (Drop below) h open_ = tt

pub none_put : (log : List LogEvent) (generation : ℕ) (name : Name) (found : Option (List ℕ)) → IsFirstPut log generation name found → found ≡ None → HasPut log generation name → ⊥
none_put log generation name found h none = subst (λ (o : Option (List ℕ)). IsFirstPut log generation name o) none h

pub has_put : (log : List LogEvent) (generation : ℕ) (name : Name) (found : Option (List ℕ)) → IsFirstPut log generation name found → IsTrue (is_some found) ↔ HasPut log generation name
has_put log generation name None h = (λ t. absurd (cc t), λ has. absurd (h has))
has_put log generation name (Some text) h = (λ _. (text, first_has log generation name text h), λ _. refl)
