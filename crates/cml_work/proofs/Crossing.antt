-- Values, events and groups may cross threads, as programs may. Each of these reaches itself, so it is shown of one layer, given that it holds of
-- what lies in it, and then of all.
use denote.Model.Local.{Parts, rows}
use denote.Model.Goals.{send, sync, has_of, part_has}
use denote.Model.Marks.{both_send, both_sync}
use denote.Param.Send.{IsSend, IsSync, sendable}
use Rattle.std.proofs.Crossing.{crosses}
use Rattle.cml_check.proofs.Crossing.{programs_cross}
use Rattle.cml_value.specs.contracts.value.Base.TheKnot as value
use Rattle.cml_value.specs.contracts.value.Base as Base
use Rattle.cml_value.specs.contracts.value.FnRef as FnRef
use Rattle.cml_value.specs.contracts.value.Event as Event
use Rattle.cml_value.specs.contracts.value.Value as Value
use Rattle.cml_value.specs.declared.value.Base.TheDeep as values
use Rattle.cml_value.specs.contracts.group.Group.TheKnot as group
use Rattle.cml_value.specs.contracts.group.Group as Group
use Rattle.cml_value.specs.declared.group.Group.TheDeep as groups

-- values
module _ (p : Parts value.frame) (s : (j : values.the_members) → IsSend (rows value.frame p j)) (y : (j : values.the_members) → IsSync (rows value.frame p j)) where
  sends : (i : values.the_members) → IsSend (rows value.frame (value.step p) i)
  sends values.member-Base = has_of value.frame send (value.step p) values.member-Base (part_has send (value.view-Base p) (search (sendable, crosses) depth 60 fits 100000))
  sends values.member-Both = has_of value.frame send (value.step p) values.member-Both (part_has send (value.view-Both p) (search (sendable, crosses) depth 60 fits 100000))
  sends values.member-Event = has_of value.frame send (value.step p) values.member-Event (part_has send (value.view-Event p) (search (sendable, crosses) depth 60 fits 100000))
  sends values.member-FnRef = has_of value.frame send (value.step p) values.member-FnRef (part_has send (value.view-FnRef p) (search (sendable, crosses) depth 60 fits 100000))
  sends values.member-Value = has_of value.frame send (value.step p) values.member-Value (part_has send (value.view-Value p) (search (sendable, crosses) depth 60 fits 100000))

  syncs : (i : values.the_members) → IsSync (rows value.frame (value.step p) i)
  syncs values.member-Base = has_of value.frame sync (value.step p) values.member-Base (part_has sync (value.view-Base p) (search (sendable, crosses) depth 60 fits 100000))
  syncs values.member-Both = has_of value.frame sync (value.step p) values.member-Both (part_has sync (value.view-Both p) (search (sendable, crosses) depth 60 fits 100000))
  syncs values.member-Event = has_of value.frame sync (value.step p) values.member-Event (part_has sync (value.view-Event p) (search (sendable, crosses) depth 60 fits 100000))
  syncs values.member-FnRef = has_of value.frame sync (value.step p) values.member-FnRef (part_has sync (value.view-FnRef p) (search (sendable, crosses) depth 60 fits 100000))
  syncs values.member-Value = has_of value.frame sync (value.step p) values.member-Value (part_has sync (value.view-Value p) (search (sendable, crosses) depth 60 fits 100000))

pub base_send : IsSend Base.the_row
base_send = both_send value.frame value.step value.sizes sends syncs values.member-Base

pub base_sync : IsSync Base.the_row
base_sync = both_sync value.frame value.step value.sizes sends syncs values.member-Base

pub function_send : IsSend FnRef.the_row
function_send = both_send value.frame value.step value.sizes sends syncs values.member-FnRef

pub function_sync : IsSync FnRef.the_row
function_sync = both_sync value.frame value.step value.sizes sends syncs values.member-FnRef

pub event_send : IsSend Event.the_row
event_send = both_send value.frame value.step value.sizes sends syncs values.member-Event

pub event_sync : IsSync Event.the_row
event_sync = both_sync value.frame value.step value.sizes sends syncs values.member-Event

pub value_send : IsSend Value.the_row
value_send = both_send value.frame value.step value.sizes sends syncs values.member-Value

pub value_sync : IsSync Value.the_row
value_sync = both_sync value.frame value.step value.sizes sends syncs values.member-Value

pub ruleset values_cross = (base_send, base_sync, function_send, function_sync, event_send, event_sync, value_send, value_sync)

-- groups
module _ (p : Parts group.frame) (s : (j : groups.the_members) → IsSend (rows group.frame p j)) (y : (j : groups.the_members) → IsSync (rows group.frame p j)) where
  group_sends : (i : groups.the_members) → IsSend (rows group.frame (group.step p) i)
  group_sends groups.member-Group = has_of group.frame send (group.step p) groups.member-Group (part_has send (group.view-Group p) (search (sendable, crosses, values_cross) depth 60 fits 100000))

  group_syncs : (i : groups.the_members) → IsSync (rows group.frame (group.step p) i)
  group_syncs groups.member-Group = has_of group.frame sync (group.step p) groups.member-Group (part_has sync (group.view-Group p) (search (sendable, crosses, values_cross) depth 60 fits 100000))

pub group_send : IsSend Group.the_row
group_send = both_send group.frame group.step group.sizes group_sends group_syncs groups.member-Group

pub group_sync : IsSync Group.the_row
group_sync = both_sync group.frame group.step group.sizes group_sends group_syncs groups.member-Group

pub ruleset all_cross = (sendable, crosses, values_cross, group_send, group_sync, programs_cross)
