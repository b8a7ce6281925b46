-- What the spellings of keywords name.
use Rattle.std.proofs.Common.{refl}
use Rattle.cml_trace.specs.declared.keyword.Keyword.TheVariants.{Spawn, Chan, SwapChan, IVar, MVar, Mailbox, Mchan}
use Rattle.cml_trace.specs.declared.keyword.Keyword.TheVariants.{Port, Copy, IPut, MPut, Mail, Multicast, Nack}
use Rattle.cml_trace.specs.declared.keyword.Keyword.TheVariants.{Sync, Rows, Commit, End, Clock, Never, Choose}
use Rattle.cml_trace.specs.declared.keyword.Keyword.TheVariants.{Wrap, Scope, Always, Send, Recv, Swap, IGet, MTake}
use Rattle.cml_trace.specs.declared.keyword.Keyword.TheVariants.{MGet, MSwap, MailRecv, PortRecv, Join, At, After}
use Rattle.cml_trace.specs.declared.keyword.Keyword.TheVariants.{True, False, Pair, Thread}
use Rattle.cml_trace.specs.Laws.{SpellingNamesKeyword}

pub spelling_names_keyword : SpellingNamesKeyword
spelling_names_keyword Spawn = refl
spelling_names_keyword Chan = refl
spelling_names_keyword SwapChan = refl
spelling_names_keyword IVar = refl
spelling_names_keyword MVar = refl
spelling_names_keyword Mailbox = refl
spelling_names_keyword Mchan = refl
spelling_names_keyword Port = refl
spelling_names_keyword Copy = refl
spelling_names_keyword IPut = refl
spelling_names_keyword MPut = refl
spelling_names_keyword Mail = refl
spelling_names_keyword Multicast = refl
spelling_names_keyword Nack = refl
spelling_names_keyword Sync = refl
spelling_names_keyword Rows = refl
spelling_names_keyword Commit = refl
spelling_names_keyword End = refl
spelling_names_keyword Clock = refl
spelling_names_keyword Never = refl
spelling_names_keyword Choose = refl
spelling_names_keyword Wrap = refl
spelling_names_keyword Scope = refl
spelling_names_keyword Always = refl
spelling_names_keyword Send = refl
spelling_names_keyword Recv = refl
spelling_names_keyword Swap = refl
spelling_names_keyword IGet = refl
spelling_names_keyword MTake = refl
spelling_names_keyword MGet = refl
spelling_names_keyword MSwap = refl
spelling_names_keyword MailRecv = refl
spelling_names_keyword PortRecv = refl
spelling_names_keyword Join = refl
spelling_names_keyword At = refl
spelling_names_keyword After = refl
spelling_names_keyword True = refl
spelling_names_keyword False = refl
spelling_names_keyword Pair = refl
spelling_names_keyword Thread = refl
