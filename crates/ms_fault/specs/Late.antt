-- Changes that were sent and are not done yet.
use Rattle.std.specs.Prelude.{◌≡◌, ℕ, ◌+◌, ◌-◌, ◌^◌, ◌≤◌, nat_lt, max, min, List, None, filter}
use Rattle.ms_base.specs.declared.limits.TheConstants.{OBJECT_BYTES}
use Rattle.ms_core.specs.Views.{IsClosed}
use Rattle.ms_fault.specs.Changes.{size_of}
use Rattle.ms_fault.specs.declared.late.LateChange.{LateChange}
use Rattle.ms_ken.specs.Known.{Known}
use Rattle.ms_link.specs.Links.{LinkView, MayAdd}
use Rattle.ms_record.specs.declared.item.Item.{Item}
use Rattle.ms_record.specs.declared.log.LogEvent.{LogEvent}

-- the change may be done on this link with the note that it was sent with
pub record IsDue (link : LinkView) (late : LateChange) : Type 0 where
  pub board : late.note.board ≡ link.board
  pub note : late.note.word ≡ None
  pub short : size_of late.event ≤ OBJECT_BYTES
  pub follows : MayAdd IsClosed link late.note late.event

-- the changes that are still to wait before this call
abbrev pub waiting : ℕ → List LateChange → List LateChange
waiting call late = filter (λ change. nat_lt call change.before) late

-- a change that was sent in this call by a caller that knew so much, to be done so many calls later
abbrev pub sent_late : ℕ → Known Item → LogEvent → ℕ → LateChange
sent_late call known event later = record { note = record known { word = None }; event = event; before = min (call + max later 1) (2 ^ 64 - 1) }
