-- What is found under the lock.
use Rattle.std.proofs.Common.{◌≡◌, Bool, true, false, refl, sym, ◌∙◌}
use Rattle.cml_hub.specs.Kept.{Kept, NoneOut, is_out_of}
use Rattle.cml_work.specs.declared.locked.Found.{Found}
use Rattle.cml_work.specs.declared.locked.Found.TheVariants as found
use Rattle.cml_work.specs.Works.{PlainOpening, OpenedBy, IsJob}

-- a job of the hub's program is one of the opening's
pub job_follows : (o : PlainOpening) (old : Kept) (f : Found) → OpenedBy o old → IsJob old.course.program f → IsJob o.program f
job_follows o old (found.Job j) follows job = (job.0 ∙ follows.program, job.1)
job_follows o old found.Wait follows job = job
job_follows o old found.Over follows job = job

-- where it is not so that some slice is out, none is
pub none_out_of : (h : Kept) → ((NoneOut h → ⊥) → ⊥) → NoneOut h
none_out_of h n t = stable (is_out_of h.out t) refl
  where
    differ : true ≡ false → ⊥
    differ e = cc

    stable : (b : Bool) → is_out_of h.out t ≡ b → is_out_of h.out t ≡ false
    stable true is = absurd (n (λ none. differ (sym is ∙ none t)))
    stable false is = is
