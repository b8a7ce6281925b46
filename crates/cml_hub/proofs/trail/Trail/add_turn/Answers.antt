use Rattle.std.proofs.Common.{arith, ap, ◌∙◌, ◌+◌, ◌++◌, length}
use Rattle.std.specs.String.{string_bytes}
use Rattle.cml_hub.proofs.trail.Trail.add_turn.Goals as goal

pub note-requires-clause-room : goal.note-requires-clause-room
note-requires-clause-room c = c.requires.room.lists.origins

pub note-requires-clause-few : goal.note-requires-clause-few
note-requires-clause-few c = omega (arith, c.requires.few)

pub tell-requires : goal.tell-requires
tell-requires c = omega (arith, c.requires.room.output, ap length c.as_str.ensures.value)

pub settle-requires-clause-room : goal.settle-requires-clause-room
settle-requires-clause-room c = c.requires.room.lists.machines

pub push_reserved-requires : goal.push_reserved-requires
push_reserved-requires c = c.requires.room.lists.items

pub returns-clause-adds : goal.returns-clause-adds
returns-clause-adds c = λ end is. record {
  items = c.push_reserved.ensures.items;
  machines = c.settle.ensures end is;
  output = c.tell.ensures ∙ ap (λ xs. string_bytes c.args.self.now.output ++ xs) c.as_str.ensures.value;
  used = ap (λ n. c.args.self.now.used + n) c.from.ensures;
  origins = c.note.ensures.origins;
  faults = c.note.ensures.faults;
}
