-- What one command by itself does where its call was refused or ran out of memory.
use Rattle.std.proofs.Common.{◌≡◌, false, Result, Ok, Err, refl, sym, ◌∙◌, ap}
use Rattle.std.specs.Prelude.{IsOk}
use Rattle.cml_scan.specs.World.{PlainWorld}
use Rattle.cml_book.specs.declared.refusal.Fault.{Fault}
use Rattle.cml_book.specs.declared.refusal.Fault.TheVariants.{Refused, Memory}
use Rattle.cml_book.specs.declared.refusal.Returned.{Returned}
use Rattle.cml_book.specs.declared.command.Command.{Command}
use Rattle.cml_book.specs.declared.command.Reply.{Reply}
use Rattle.cml_book.specs.declared.command.Reply.TheVariants as reply
use Rattle.cml_book.specs.Outcomes.{Outcome, Does}
use Rattle.cml_book.specs.Step.{answered, step, is_refusal, DoesStep, refused_reply}

-- the reply to a command that is accepted is no refusal
pub accepted_reply : {R : Type 0} (f : R → Reply) (w : PlainWorld) (o : Outcome R) → ((r : R) → is_refusal (f r) ≡ false) → IsOk o → is_refusal (answered f w o).1 ≡ false
accepted_reply f w (Ok next) plain ok = plain next.1
accepted_reply f w (Err why) plain ok = cc

-- what `refused` hands out for the fault of a call is what the command does
pub refused_step : {R : Type 0} (f : R → Reply) (fault : Fault) (c asked : Command) (o : Outcome R)
    (old new : PlainWorld) (result : Result Reply (Returned Command)) → ((r : R) → is_refusal (f r) ≡ false)
    → step old asked ≡ answered f old o → c ≡ asked → result ≡ refused_reply fault c → Does {R = R} (Err fault) o old new → DoesStep result asked old new
refused_step f (Refused why) c asked o old new result plain is same gave does = rw gave (is ∙ ap (answered f old) does.0 ∙ ap (λ w. (w, reply.Refused why)) (sym does.1))
refused_step f Memory c asked o old new result plain is same gave does = rw gave (same, refl, ap (λ r. is_refusal r.1) is ∙ accepted_reply f old o plain does.0, does.1)
