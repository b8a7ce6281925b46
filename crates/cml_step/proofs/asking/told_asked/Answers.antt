use Rattle.cml_step.proofs.asking.told_asked.Goals as goal

pub returns-in-Mail-clause-gives : goal.returns-in-Mail-clause-gives
returns-in-Mail-clause-gives c = λ self term. rw c.in-Mail.is (c.mail_asked.ensures.gives self term)

pub returns-in-MPut-clause-gives : goal.returns-in-MPut-clause-gives
returns-in-MPut-clause-gives c = λ self term. rw c.in-MPut.is (c.put_asked.ensures.gives self term)
