-- What is kept of a pending thread: in its seat where its group is one leaf, and apart where it is not.
use Rattle.std.specs.Prelude.{ℕ, List, []}
use Rattle.cml_scan.specs.World.{PlainEntry}
use Rattle.cml_index.specs.declared.slot.Wait.{Wait}
use Rattle.cml_index.specs.declared.entry.Post.{Post}
use Rattle.cml_index.specs.declared.entry.Post.TheVariants.{Lone, Listed}

-- the thread and its group
abbrev pub plain_post : Post → PlainEntry
plain_post (Lone p) = record { thread = p.tid.0; group = p.group.value }
plain_post (Listed p) = record { thread = p.value.tid.0; group = p.value.group.value }

-- what its leaves wait for
abbrev pub post_waits : Post → List Wait
post_waits (Lone p) = p.waits
post_waits (Listed p) = p.value.waits.items

-- the nacks of its scopes
abbrev pub post_nacks : Post → List ℕ
post_nacks (Lone p) = []
post_nacks (Listed p) = p.value.nacks.items
