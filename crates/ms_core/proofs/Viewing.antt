-- In a view that tells a setting, what is chosen agrees, is valid, and stays placed.
use Rattle.std.proofs.Common.{◌≡◌, ℕ, ◌+◌, List, [], ◌∷◌, ◌++◌, Some, ◌⊎◌, inl, inr, ◌∙◌, subst, slice_get, length, arith}
use Rattle.std.proofs.lemmas.Bool.{cases_lt}
use Rattle.ms_record.specs.ChainLaws.{ChainLaws}
use Rattle.ms_core.specs.Living.{OneList, AreBacked}
use Rattle.ms_core.proofs.Living.{live_stands, live_plan}
use Rattle.ms_core.proofs.Telling.{tells, log_supported, vote_offered, offered, told_sound}
use Rattle.ms_base.specs.CountLaws.{count_some}
use Rattle.ms_core.specs.Closing.{closed_of_longer, logs_grow, whole_more}
use Rattle.ms_core.specs.Growth.{linked_grows}
use Rattle.ms_core.specs.Valid.{IsLive, plan_at}
use Rattle.ms_core.specs.Views.{View, configuration, log_in, offers_told, votes_told, IsWhole, IsWholeMaster, StaysWhole, TellsSetting, IsClosed}
use Rattle.ms_ken.specs.Lists.{list_at, Agree, longer_lists}
use Rattle.ms_ken.specs.Prefixes.{longer_by}
use Rattle.ms_ken.specs.Rows.{agree_first, agree_second, list_at-longer_lists}
use Rattle.ms_record.specs.declared.entry.Entry.{Entry}
use Rattle.ms_record.specs.declared.item.Item.TheVariants.{Told}
use Rattle.ms_record.specs.declared.setting.Setting.{Setting}
use Rattle.ms_record.specs.Chains.{IsLinked, IsChain, IsChosen, Agrees, AllNext, Begins, LinksBehind, voters_behind}
use Rattle.ms_record.specs.Logs.{HasPut, Stands}
use Rattle.ms_record.specs.Plans.{PlanView}
use Rattle.ms_record.specs.Settings.{origin_of}
use Rattle.ms_record.specs.Votes.{ChosenBy}

pub view_agrees : (l : ChainLaws) (setting : Setting) (view : View) → TellsSetting view setting → Agrees (votes_told view) (origin_of setting)
view_agrees l setting view h = l.agrees (votes_told view) (offers_told view) (origin_of setting) (told_sound setting view h)

pub view_valid : (setting : Setting) (view : View) → TellsSetting view setting → (k : ℕ) (e : Entry) → IsChosen (votes_told view) (origin_of setting) k e → IsWholeMaster setting (log_in view) k e
view_valid setting view h k e c =
    let m = count_some c.chosen.part (voters_behind (origin_of setting) c.members) (omega (arith, c.chosen.majority.more_than_half)) in
    let t = c.chosen.taken m.0 m.1 in
    let o = offered view setting h k c.chosen.ballot e (vote_offered view setting h m.0 t.0 k c.chosen.ballot e t.1.stands) in
    record { valid = o.1.supports.declared.valid; whole = o.1.supports.whole }

pub view_next : (setting : Setting) (view : View) → TellsSetting view setting → AllNext (votes_told view) (origin_of setting)
view_next setting view h k e c = (view_valid setting view h k e c).valid.next

pub view_stands : (l : ChainLaws) (setting : Setting) (view : View) (chain : List Entry) → TellsSetting view setting → IsChain (votes_told view) (origin_of setting) chain
    → (i : ℕ) (e : Entry) → IsChosen (votes_told view) (origin_of setting) (i + 1) e → slice_get chain i ≡ Some e
view_stands l setting view chain h is i e c = l.stands (votes_told view) (origin_of setting) chain i e (view_agrees l setting view h) (view_next setting view h) is c

pub view_begins : (l : ChainLaws) (setting : Setting) (view : View) → TellsSetting view setting → OneList setting (log_in view)
view_begins l setting view h a b la lb short = l.begins (votes_told view) (origin_of setting) a b (view_agrees l setting view h) la lb short

pub view_backed : (setting : Setting) (view : View) → TellsSetting view setting → AreBacked setting (log_in view)
view_backed setting view h s floor has = (log_supported view setting h s _ has).1

-- a chosen entry links on to the members that it is chosen behind
pub view_links : (l : ChainLaws) (setting : Setting) (view : View) → TellsSetting view setting → (k : ℕ) (e : Entry) → (c : IsChosen (votes_told view) (origin_of setting) k e) → LinksBehind (origin_of setting) c.members e
view_links l setting view h k e c =
    let n = view_next setting view h k e c in
    let same = l.one_list (votes_told view) (origin_of setting) n.members c.members (view_agrees l setting view h) n.linked c.linked (omega (arith, n.at, c.at)) in
    subst (λ (members : List Entry). LinksBehind (origin_of setting) members e) same n.links

-- a chosen entry ends a linked list
pub view_linked : (l : ChainLaws) (setting : Setting) (view : View) → TellsSetting view setting → (i : ℕ) (e : Entry) → IsChosen (votes_told view) (origin_of setting) (i + 1) e
    → (members : List Entry) × (length members ≡ i) × IsLinked (votes_told view) (origin_of setting) (members ++ e ∷ [])
view_linked l setting view h i e c =
    let members = c.members in
    let chosen = subst (λ (n : ℕ). ChosenBy (votes_told view) (voters_behind (origin_of setting) members) n e) c.at c.chosen in
    (members, omega (arith, c.at), l.goes_on (votes_told view) (origin_of setting) members e c.linked chosen (view_links l setting view h (i + 1) e c))

-- a live master stays whole
pub view_live : (l : ChainLaws) (setting : Setting) (view : View) (chain : List Entry) (i : ℕ) (e : Entry) → TellsSetting view setting
    → IsChain (votes_told view) (origin_of setting) chain → IsLive setting chain i e → StaysWhole (log_in view) (plan_at setting chain i) e.version
view_live l setting view chain i e h is live =
    let logs = log_in view in
    let plan = plan_at setting chain i in
    let v = view_valid setting view h (i + 1) e (l.chosen (votes_told view) (origin_of setting) chain i e is.linked live.is) in
    let begins = view_begins l setting view h in
    let whole : IsWhole logs plan e.version = subst (λ (p : PlanView). IsWhole logs p e.version) (live_plan setting logs chain i e begins is live.is v.valid) v.whole in
    whole_more (λ s name. HasPut (logs s) plan.generation name) (λ s name. Stands (logs s) plan.generation name) plan e.version
    (live_stands setting logs chain i e h.ranges begins (view_backed setting view h) is live) whole

-- ---- two views of one board

told_longer : (xs ys : View) (setting : Setting) → list_at xs configuration ≡ Told setting ∷ [] → list_at ys configuration ≡ Told setting ∷ [] → list_at (longer_lists xs ys) configuration ≡ Told setting ∷ []
told_longer xs ys setting x y = list_at-longer_lists xs ys configuration ∙ longer_by (λ l. l ≡ Told setting ∷ []) (list_at xs configuration) (list_at ys configuration) (λ _. x) (λ _. y)

pub views_agree : (l : ChainLaws) (setting : Setting) (xs ys : View) (c d : List Entry) → length xs ≡ length ys → IsClosed xs → IsClosed ys → Agree xs ys
    → list_at xs configuration ≡ Told setting ∷ [] → list_at ys configuration ≡ Told setting ∷ []
    → IsLinked (votes_told xs) (origin_of setting) c → IsLinked (votes_told ys) (origin_of setting) d → Begins c d ⊎ Begins d c
views_agree l setting xs ys c d wide p q agree x y lc ld =
    let both = longer_lists xs ys in
    let h = tells both setting (closed_of_longer xs ys wide p q agree) (told_longer xs ys setting x y) in
    let c_both = linked_grows setting (log_in xs) (log_in both) c (logs_grow xs both (agree_first xs ys agree)) lc in
    let d_both = linked_grows setting (log_in ys) (log_in both) d (logs_grow ys both (agree_second xs ys agree)) ld in
    elim (cases_lt (length c) (length d)) [
      | inl less ↦ inl (view_begins l setting both h c d c_both d_both (omega (arith, less)))
      | inr more ↦ inr (view_begins l setting both h d c d_both c_both more)
    ]
