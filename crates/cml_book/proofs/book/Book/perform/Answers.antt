use Rattle.std.proofs.Common.{refl, sym, ap}
use Rattle.cml_book.specs.declared.command.Reply.TheVariants as reply
use Rattle.cml_book.specs.Step.{step}
use Rattle.cml_book.specs.Sync.{sync}
use Rattle.cml_book.proofs.Performs.{refused_step}
use Rattle.cml_book.proofs.book.Book.perform.Goals as goal

pub returns-in-Err-sync : goal.returns-in-Err-sync
returns-in-Err-sync g c =
    refused_step (λ (_ : Unit {0}). reply.Done) c.in-Err-sync.fault _ c.args.command
    (sync c.args.self.now c.in-Sync.thread.0 c.in-Sync.group) c.args.self.now c.sync.new.self
    c.refused-in-Err-sync.result
    (λ _. refl) (ap (step c.args.self.now) c.in-Sync.is) (sym c.in-Sync.is) c.refused-in-Err-sync.ensures c.in-Err-sync.ensures
