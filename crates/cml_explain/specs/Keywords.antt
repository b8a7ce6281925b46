-- What each keyword of a script begins, what its parts are, and how many it takes.
use Rattle.std.specs.Prelude.{ℕ, Some, None}
use Rattle.cml_check.specs.declared.word.Word.{Word}
use Rattle.cml_check.specs.declared.word.Word.TheVariants as word
use Rattle.cml_explain.specs.declared.keyword.Keyword.{Keyword}
use Rattle.cml_explain.specs.declared.keyword.Sort.{Sort}
use Rattle.cml_explain.specs.declared.keyword.Sort.TheVariants as sort
use Rattle.cml_explain.specs.declared.keyword.Role.{Role}
use Rattle.cml_explain.specs.declared.keyword.Role.TheVariants.{FunctionName, Parameters, Statement, Block, Variable, Source, SetValue, Value, Called}

-- it takes so many parts; so many, or more: what it begins, and what its first part is, its second, and each behind them
abbrev pub just : ℕ → Sort → Role → Role → Role → Keyword
just n begins first second others = record { sort = begins; first = first; second = second; others = others; needed = n; most = Some n }

abbrev pub at_least : ℕ → Sort → Role → Role → Role → Keyword
at_least n begins first second others = record { sort = begins; first = first; second = second; others = others; needed = n; most = None }

abbrev pub keyword_entry : Word → Keyword
keyword_entry word.Fn = at_least 2 sort.Item FunctionName Parameters Statement
keyword_entry word.Do = at_least 0 sort.Block Statement Statement Statement
keyword_entry word.Let = just 2 sort.Statement Variable Source Source
keyword_entry word.Set = just 2 sort.Statement Variable SetValue SetValue
keyword_entry word.If = just 3 sort.Statement Value Block Block
keyword_entry (word.Tested test) = at_least 1 sort.Statement Value Statement Statement
keyword_entry word.Return = just 1 sort.Statement Value Value Value
keyword_entry word.Call = at_least 1 sort.Effect Called Value Value
keyword_entry word.Spawn = at_least 1 sort.Effect Called Value Value
keyword_entry word.Choose = at_least 0 sort.Value Value Value Value
keyword_entry word.Wrap = at_least 2 sort.Value Value Called Value
keyword_entry word.Guard = at_least 1 sort.Value Called Value Value
keyword_entry word.WithNack = at_least 1 sort.Value Called Value Value
keyword_entry word.MVar = record { sort = sort.Effect; first = Value; second = Value; others = Value; needed = 0; most = Some 1 }
keyword_entry (word.Constant constant) = just 0 sort.Constant Value Value Value
keyword_entry (word.Unary unary) = just 1 sort.Value Value Value Value
keyword_entry (word.Binary binary) = just 2 sort.Value Value Value Value
keyword_entry (word.Act act) = just 0 sort.Effect Value Value Value
keyword_entry (word.ActOnOne act) = just 1 sort.Effect Value Value Value
keyword_entry (word.ActOnTwo act) = just 2 sort.Effect Value Value Value
