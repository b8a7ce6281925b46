-- Why a command was refused: by the command, by its refusal, and by the world in which it stands.
use Rattle.std.specs.Prelude.{ℕ, List, length, nat_eq, nat_lt, Option, Some, None, slice_get, if◌then◌else◌, unwrap_or}
use Rattle.std.specs.Option.{option_or}
use Rattle.cml_value.specs.Value.{PlainBase, send, recv, swap, iget, mtake, mget, mswap, mail_recv, port_recv, join, nack}
use Rattle.cml_value.specs.Group.{PlainGroup, never, leaf, choose, wrap, scope, PlainGroups, no_groups, groups_and}
use Rattle.cml_scan.specs.World.{PlainThread, running, pending_on, ended, PlainNack, fresh_of, live, fired, held, PlainWorld}
use Rattle.cml_scan.specs.declared.meet.Meet.{Meet}
use Rattle.cml_scan.specs.declared.meet.Meet.TheVariants.{Single, Pair}
use Rattle.cml_book.specs.declared.command.Command.{Command}
use Rattle.cml_book.specs.declared.command.Command.TheVariants as command
use Rattle.cml_book.specs.declared.refusal.Refusal.{Refusal}
use Rattle.cml_book.specs.declared.refusal.Refusal.TheVariants.{Thread, State, Object, Put, Clock, Leaves, Deep, Far, Full}
use Rattle.cml_book.specs.Sync.{base_exists}
use Rattle.cml_trace.specs.declared.why.Kind.{Kind}
use Rattle.cml_trace.specs.declared.why.Kind.TheVariants as kind
use Rattle.cml_trace.specs.declared.why.Thing.{Thing}
use Rattle.cml_trace.specs.declared.why.Act.{Act}
use Rattle.cml_trace.specs.declared.why.Act.TheVariants as act
use Rattle.cml_trace.specs.declared.why.Leaf.{Leaf}
use Rattle.cml_trace.specs.declared.why.Stale.{Stale}
use Rattle.cml_trace.specs.declared.why.Stale.TheVariants as stale
use Rattle.cml_trace.specs.declared.why.StaleNack.{StaleNack}
use Rattle.cml_trace.specs.declared.why.Why.{Why}
use Rattle.cml_trace.specs.declared.why.Why.TheVariants as why

abbrev pub thing : Kind → ℕ → Thing
thing k n = record { kind = k; number = n }

abbrev pub absent : Kind → ℕ → Why
absent k n = why.Absent (thing k n)

-- the commands that make an object, or end in one
abbrev pub mvar_why : Refusal → Why
mvar_why Deep = why.DeepValue
mvar_why _ = why.NoMore kind.MVar

abbrev pub port_why : Kind → ℕ → Refusal → Why
port_why k n Object = absent k n
port_why k n _ = why.NoMore kind.Port

-- the commands that hand a value over
abbrev pub put_why : Kind → ℕ → Refusal → Why
put_why k n Object = absent k n
put_why k n Put = why.Filled (thing k n)
put_why k n _ = why.DeepValue

-- those that add to a mailbox, or to the ports of a multicast channel
abbrev pub mail_why : Kind → ℕ → Refusal → Why
mail_why k n Object = absent k n
mail_why k n Full = why.Crowded (thing k n)
mail_why k n _ = why.DeepValue

-- a thread that does not run can't do this: it is pending, or it has ended
abbrev pub idle_why : Option PlainThread → ℕ → Act → Why
idle_why (Some (pending_on g)) t does = why.Pending t does
idle_why _ t does = why.Ended t does

abbrev pub nack_why : PlainWorld → ℕ → Refusal → Why
nack_why w t Thread = absent kind.Thread t
nack_why w t State = idle_why (slice_get w.threads t) t act.MakeNack
nack_why w t _ = why.NoMore kind.Nack

abbrev pub end_why : PlainWorld → ℕ → Refusal → Why
end_why w t Thread = absent kind.Thread t
end_why w t _ = idle_why (slice_get w.threads t) t act.End

-- what a base event names; one that names nothing is never missing
abbrev pub named_by : PlainBase → Option Thing
named_by (send c v) = Some (thing kind.Channel c)
named_by (recv c) = Some (thing kind.Channel c)
named_by (swap s v) = Some (thing kind.SwapChannel s)
named_by (iget i) = Some (thing kind.IVar i)
named_by (mtake m) = Some (thing kind.MVar m)
named_by (mget m) = Some (thing kind.MVar m)
named_by (mswap m v) = Some (thing kind.MVar m)
named_by (mail_recv b) = Some (thing kind.Mailbox b)
named_by (port_recv p) = Some (thing kind.Port p)
named_by (join t) = Some (thing kind.Thread t)
named_by (nack k) = Some (thing kind.Nack k)
named_by _ = None

abbrev mutual
  -- What a group names first and does not exist, if there is such a thing: from the left, and the nack of a scope before what stands in it.
  pub missing_in : PlainWorld → PlainGroup → Option Thing
  missing_in w never = None
  missing_in w (leaf b) = if base_exists w b then None else named_by b
  missing_in w (choose gs) = missing_in_all w gs
  missing_in w (wrap g f) = missing_in w g
  missing_in w (scope k g) = if nat_lt k (length w.nacks) then missing_in w g else Some (thing kind.Nack k)

  pub missing_in_all : PlainWorld → PlainGroups → Option Thing
  missing_in_all w no_groups = None
  missing_in_all w (groups_and g gs) = option_or (missing_in w g) (missing_in_all w gs)

abbrev pub missing_why : Option Thing → Why
missing_why (Some what) = why.Absent what
missing_why None = why.AbsentOfGroup

abbrev pub stale_as : ℕ → Stale → Option StaleNack
stale_as k state = Some (record { nack = k; state = state })

-- the nack of this number and in this state, where it can't be that of a scope on which this thread waits
abbrev pub stale_nack : ℕ → ℕ → Option PlainNack → Option StaleNack
stale_nack t k None = None
stale_nack t k (Some (fresh_of owner)) = if nat_eq owner t then None else stale_as k (stale.OfThread owner)
stale_nack t k (Some live) = stale_as k stale.Live
stale_nack t k (Some fired) = stale_as k stale.Fired
stale_nack t k (Some held) = stale_as k stale.Held

abbrev mutual
  -- the first nack of a scope that can't be one, from the left, an outer one before those in it
  pub stale_in : PlainWorld → ℕ → PlainGroup → Option StaleNack
  stale_in w t never = None
  stale_in w t (leaf b) = None
  stale_in w t (choose gs) = stale_in_all w t gs
  stale_in w t (wrap g f) = stale_in w t g
  stale_in w t (scope k g) = option_or (stale_nack t k (slice_get w.nacks k)) (stale_in w t g)

  pub stale_in_all : PlainWorld → ℕ → PlainGroups → Option StaleNack
  stale_in_all w t no_groups = None
  stale_in_all w t (groups_and g gs) = option_or (stale_in w t g) (stale_in_all w t gs)

abbrev pub stale_why : Option StaleNack → Why
stale_why (Some found) = why.NotOfScope found
stale_why None = why.SharedNack

-- the command by which a thread waits
abbrev pub sync_why : PlainWorld → ℕ → PlainGroup → Refusal → Why
sync_why w t g Thread = absent kind.Thread t
sync_why w t g State = idle_why (slice_get w.threads t) t act.Wait
sync_why w t g Object = missing_why (missing_in w g)
sync_why w t g Leaves = why.ManyLeaves
sync_why w t g Deep = why.DeepGroup
sync_why w t g Far = why.FarTickOfGroup
sync_why w t g _ = stale_why (stale_in w t g)

-- why none of a thread's leaves can be taken, if that is so
abbrev pub party_why : Option PlainThread → ℕ → Option Why
party_why None t = Some (absent kind.Thread t)
party_why (Some running) t = Some (why.PartyRuns t)
party_why (Some ended) t = Some (why.PartyEnded t)
party_why (Some (pending_on g)) t = None

abbrev pub leaf_named : ℕ → ℕ → Leaf
leaf_named t n = record { thread = t; leaf = n }

-- the command that takes a row
abbrev pub row_why : PlainWorld → Meet → Why
row_why w (Single t n) = unwrap_or (party_why (slice_get w.threads t.0) t.0) (why.NotAlone (leaf_named t.0 n))
row_why w (Pair t n u m) =
    unwrap_or (option_or (party_why (slice_get w.threads t.0) t.0) (party_why (slice_get w.threads u.0) u.0)) (why.NotTogether (leaf_named t.0 n) (leaf_named u.0 m))

abbrev pub clock_why : PlainWorld → ℕ → Refusal → Why
clock_why w to Clock = why.Back w.tick to
clock_why w to _ = why.FarTick

-- Why the command was refused, by each refusal that it can meet. The world is that in which it was refused.
abbrev pub why_of : PlainWorld → Command → Refusal → Why
why_of w command.Spawn refusal = why.NoMore kind.Thread
why_of w command.MakeChan refusal = why.NoMore kind.Channel
why_of w command.MakeSwap refusal = why.NoMore kind.SwapChannel
why_of w command.MakeIVar refusal = why.NoMore kind.IVar
why_of w (command.MakeMVar v) refusal = mvar_why refusal
why_of w command.MakeMailbox refusal = why.NoMore kind.Mailbox
why_of w command.MakeMChan refusal = why.NoMore kind.Multicast
why_of w (command.MakePort x) refusal = port_why kind.Multicast x.0 refusal
why_of w (command.CopyPort p) refusal = port_why kind.Port p.0 refusal
why_of w (command.IPut i v) refusal = put_why kind.IVar i.0 refusal
why_of w (command.MPut m v) refusal = put_why kind.MVar m.0 refusal
why_of w (command.Mail b v) refusal = mail_why kind.Mailbox b.0 refusal
why_of w (command.Multicast x v) refusal = mail_why kind.Multicast x.0 refusal
why_of w (command.Nack t) refusal = nack_why w t.0 refusal
why_of w (command.Sync t g) refusal = sync_why w t.0 g refusal
why_of w (command.Commit row) refusal = row_why w row
why_of w (command.End t) refusal = end_why w t.0 refusal
why_of w (command.Clock k) refusal = clock_why w k refusal
