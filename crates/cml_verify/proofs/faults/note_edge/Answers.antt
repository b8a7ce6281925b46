use Rattle.std.proofs.Common.{◌≡◌, [], length, refl, ap, sym, append-nil, arith}
use Rattle.cml_verify.specs.Cores.{whose_turn}
use Rattle.cml_verify.proofs.Faulting.{edge_counts, edge_within, no_fault, no_turn, turn_falls, turn_noted, each_told, told_longer}
use Rattle.cml_verify.proofs.faults.note_edge.Goals as goal

pub faults_at-few-requires : goal.faults_at-few-requires
faults_at-few-requires c =
    rw c.kept-kept.ensures.kept (edge_within c.args.system.now.program c.args.system.now.with_output c.args.found.now.kept.keys c.args.edge c.requires.edge).0

pub faults_at-many-requires : goal.faults_at-many-requires
faults_at-many-requires c =
    rw c.kept-kept.ensures.kept (edge_within c.args.system.now.program c.args.system.now.with_output c.args.found.now.kept.keys c.args.edge c.requires.edge).1

pub note-requires : goal.note-requires
note-requires c =
    rw c.kept-kept.ensures.kept (edge_within c.args.system.now.program c.args.system.now.with_output c.args.found.now.kept.keys c.args.edge c.requires.edge).0

pub returns-then-few-many-clause-longer : goal.returns-then-few-many-clause-longer
returns-then-few-many-clause-longer c = ([], sym (append-nil c.args.told.now.items))

pub returns-then-few-many-clause-noted : goal.returns-then-few-many-clause-noted
returns-then-few-many-clause-noted c =
    let p = c.args.system.now.program in
    let s = c.args.system.now.with_output in
    let keys = c.args.found.now.kept.keys in
    let few = rw c.kept-kept.ensures.kept at c.faults_at-few.ensures in
    let many = rw c.kept-kept.ensures.kept at c.faults_at-many.ensures in
    let n = edge_counts p s keys c.args.edge c.requires.edge c.faults_at-few.result c.faults_at-many.result few many in
    no_fault p s keys c.args.told.now.items c.args.edge c.requires.edge (omega (arith, n.0, n.1, c.if-few-many.true))

pub returns-in_ok-note-in-Turn-clause-each : goal.returns-in_ok-note-in-Turn-clause-each
returns-in_ok-note-in-Turn-clause-each c =
    let p = c.args.system.now.program in
    let s = c.args.system.now.with_output in
    let keys = c.args.found.now.kept.keys in
    let few = rw c.kept-kept.ensures.kept at c.faults_at-few.ensures in
    let many = rw c.kept-kept.ensures.kept at c.faults_at-many.ensures in
    let n = edge_counts p s keys c.args.edge c.requires.edge c.faults_at-few.result c.faults_at-many.result few many in
    let falls = turn_falls p s keys c.args.edge c.requires.edge c.in-Turn.thread c.in-Turn.is (omega (arith, n.0, n.1, c.if-few-many.false)) in
    each_told p s keys c.args.told.now.items c.note.new.told.items (c.args.edge.0, c.in-Turn.thread) c.requires.each falls c.in_ok-note-in-Turn.ensures.more

pub returns-in_ok-note-in-Turn-clause-longer : goal.returns-in_ok-note-in-Turn-clause-longer
returns-in_ok-note-in-Turn-clause-longer c =
    told_longer c.args.told.now.items c.note.new.told.items (c.args.edge.0, c.in-Turn.thread) c.in_ok-note-in-Turn.ensures.more

pub returns-in_ok-note-in-Turn-clause-noted : goal.returns-in_ok-note-in-Turn-clause-noted
returns-in_ok-note-in-Turn-clause-noted c =
    turn_noted c.args.system.now.program c.args.system.now.with_output c.args.found.now.kept.keys c.note.new.told.items c.args.edge c.in-Turn.thread c.in-Turn.is
    (rw c.kept-kept.ensures.kept at c.in_ok-note-in-Turn.ensures.noted)

pub returns-in-Meet-clause-longer : goal.returns-in-Meet-clause-longer
returns-in-Meet-clause-longer c = ([], sym (append-nil c.args.told.now.items))

pub returns-in-Meet-clause-noted : goal.returns-in-Meet-clause-noted
returns-in-Meet-clause-noted c =
    no_turn c.args.system.now.program c.args.system.now.with_output c.args.found.now.kept.keys c.args.told.now.items c.args.edge (ap whose_turn c.in-Meet.is)

pub returns-in-Exchange-clause-longer : goal.returns-in-Exchange-clause-longer
returns-in-Exchange-clause-longer c = ([], sym (append-nil c.args.told.now.items))

pub returns-in-Exchange-clause-noted : goal.returns-in-Exchange-clause-noted
returns-in-Exchange-clause-noted c =
    no_turn c.args.system.now.program c.args.system.now.with_output c.args.found.now.kept.keys c.args.told.now.items c.args.edge (ap whose_turn c.in-Exchange.is)

pub returns-in-Clock-clause-longer : goal.returns-in-Clock-clause-longer
returns-in-Clock-clause-longer c = ([], sym (append-nil c.args.told.now.items))

pub returns-in-Clock-clause-noted : goal.returns-in-Clock-clause-noted
returns-in-Clock-clause-noted c =
    no_turn c.args.system.now.program c.args.system.now.with_output c.args.found.now.kept.keys c.args.told.now.items c.args.edge (ap whose_turn c.in-Clock.is)
