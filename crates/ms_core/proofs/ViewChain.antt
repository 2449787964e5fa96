-- There is a chain in every view that tells a setting.
use Rattle.std.proofs.Common.{◌≡◌, ◌+◌, List, refl, length}
use Rattle.ms_core.proofs.Telling.{vote_offered, one_offer}
use Rattle.ms_core.proofs.Viewing.{view_agrees, view_links}
use Rattle.ms_core.specs.Views.{View, votes_told, TellsSetting}
use Rattle.ms_record.specs.declared.entry.Entry.{Entry}
use Rattle.ms_record.specs.declared.setting.Setting.{Setting}
use Rattle.ms_record.specs.ChainLaws.{ChainLaws}
use Rattle.ms_record.specs.Chains.{IsChain}
use Rattle.ms_record.specs.Settings.{origin_of}
use Rattle.ms_record.specs.Voters.{first_known}
use Rattle.ms_record.specs.Votes.{HaveOne}

told_have_one : (setting : Setting) (view : View) → TellsSetting view setting → HaveOne (votes_told view)
told_have_one setting view h s t i j k b e f x y = one_offer setting view h k b e f (vote_offered view setting h s i k b e x) (vote_offered view setting h t j k b f y)

pub view_chain : (l : ChainLaws) (setting : Setting) (view : View) → TellsSetting view setting → (chain : List Entry) × IsChain (votes_told view) (origin_of setting) chain
view_chain l setting view h =
    l.found (votes_told view) (origin_of setting) (told_have_one setting view h) (view_agrees l setting view h) (first_known setting h.ranges)
    (λ c e linked chosen. view_links l setting view h (length c + 1) e (record { members = c; linked = linked; at = refl; chosen = chosen }))
