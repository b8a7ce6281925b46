use Rattle.cml_objects.specs.Posts.{unread}
use Rattle.cml_objects.proofs.PostLemmas.{open_each}
use Rattle.cml_objects.proofs.delivery.deliver.Goals as goal

pub feed_all-requires-clause-open : goal.feed_all-requires-clause-open
feed_all-requires-clause-open c = λ k d h. open_each c.ports.result.now (unread c.args.ports.now.objects) (rw c.ports.ensures.ports c.requires.open) k d h
