-- What is wrong with a script, by the fault that the checker found and by the forms.
use Rattle.std.specs.Prelude.{ℕ, ◌+◌, ◌-◌, nat_lt, if◌then◌else◌, List, [], ◌∷◌, drop, length, slice_get, codes, Option, Some, None, option_and_then}
use Rattle.std.specs.Option.{option_map, option_or}
use Rattle.cml_text.specs.Forms.{PlainSexpr, plain_name, plain_list, forms_list, span_of}
use Rattle.cml_check.specs.declared.word.Word.{Word}
use Rattle.cml_check.specs.declared.word.Word.TheVariants as word
use Rattle.cml_check.specs.declared.fault.CheckKind.{CheckKind}
use Rattle.cml_check.specs.declared.fault.CheckKind.TheVariants as kind
use Rattle.cml_check.specs.Faults.{PlainCheckFault}
use Rattle.cml_check.specs.Words.{word_from}
use Rattle.cml_explain.specs.declared.keyword.Sort.{Sort}
use Rattle.cml_explain.specs.declared.keyword.Sort.TheVariants as sort
use Rattle.cml_explain.specs.declared.keyword.Role.{Role}
use Rattle.cml_explain.specs.declared.keyword.Role.TheVariants as role
use Rattle.cml_explain.specs.declared.trouble.Later.TheVariants as later
use Rattle.cml_explain.specs.declared.trouble.Trouble.{Trouble}
use Rattle.cml_explain.specs.declared.trouble.Trouble.TheVariants.{Wanted, Hollow, Unknown, Reserved, Twice, Outside, Nested, Loose, Bare, Acts, ActsInSet}
use Rattle.cml_explain.specs.declared.trouble.Trouble.TheVariants.{Commands, Unused, Lacks, Exceeds, Undeclared, NoFunction, Again, Given, MainTakes, ManyFunctions, ManyStatements}
use Rattle.cml_explain.specs.declared.hint.HintKind.{HintKind}
use Rattle.cml_explain.specs.declared.hint.HintKind.TheVariants as hint
use Rattle.cml_explain.specs.Keywords.{keyword_entry}
use Rattle.cml_explain.specs.Names.{name_spelled, members, part, name_said, item_name, item_parameters, first_named, nearest, keyword_near, PlainDeclared, declared_name, known_name, declared_in}
use Rattle.cml_explain.specs.Stands.{PlainStand, standing_at, item_over}

-- a keyword that is given that many parts
abbrev pub count_trouble : Word → ℕ → Trouble
count_trouble word given = if nat_lt given (keyword_entry word).needed then Lacks word given else Exceeds word given

-- A list that begins with a keyword which begins this, and has that many parts behind it: where a value is wanted, or a statement,
abbrev pub value_trouble : Sort → Word → ℕ → Trouble
value_trouble sort.Item word given = Nested
value_trouble sort.Block word given = Loose
value_trouble sort.Constant word given = Bare
value_trouble sort.Statement word given = Commands
value_trouble begins word given = count_trouble word given

abbrev pub statement_trouble : Sort → Word → ℕ → Trouble
statement_trouble sort.Statement word given = count_trouble word given
statement_trouble sort.Value word given = Unused
statement_trouble begins word given = value_trouble begins word given

-- and by its role
abbrev pub known_trouble : Role → Sort → Word → ℕ → Trouble
known_trouble role.Item sort.Item word given = count_trouble word given
known_trouble role.Item begins word given = Outside
known_trouble role.Statement begins word given = statement_trouble begins word given
known_trouble role.Source begins word given = value_trouble begins word given
known_trouble role.SetValue sort.Effect word given = ActsInSet
known_trouble role.SetValue begins word given = value_trouble begins word given
known_trouble role.Value sort.Effect word given = Acts
known_trouble role.Value begins word given = value_trouble begins word given
known_trouble role begins word given = Wanted role

-- a list that begins with a name that is no keyword
abbrev pub strange_trouble : Role → Trouble
strange_trouble role.Item = Unknown role.Item
strange_trouble role.Statement = Unknown role.Statement
strange_trouble role.Source = Unknown role.Source
strange_trouble role.SetValue = Unknown role.SetValue
strange_trouble role.Value = Unknown role.Value
strange_trouble role = Wanted role

-- a list without forms
abbrev pub empty_trouble : Role → Trouble
empty_trouble role.Source = Hollow
empty_trouble role.SetValue = Hollow
empty_trouble role.Value = Hollow
empty_trouble role = Wanted role

-- a list by its first form, which may be a keyword
abbrev pub first_trouble : Role → ℕ → Option Word → PlainSexpr → Trouble
first_trouble role given (Some word) first = known_trouble role (keyword_entry word).sort word given
first_trouble role given None (plain_name span name) = strange_trouble role
first_trouble role given None first = Wanted role

abbrev pub list_trouble : Role → ℕ → List PlainSexpr → Trouble
list_trouble role given [] = empty_trouble role
list_trouble role given (first ∷ behind) = first_trouble role given (word_from first) first

-- A name that does not fit is a keyword where another name must stand, or a parameter that stands twice, or stands where no name fits.
abbrev pub name_trouble : Role → Option Word → Trouble
name_trouble role.Item word = Wanted role.Item
name_trouble role.Parameters word = Wanted role.Parameters
name_trouble role.Statement word = Wanted role.Statement
name_trouble role.Block word = Wanted role.Block
name_trouble role.Keyword word = Wanted role.Keyword
name_trouble role.Parameter None = Twice
name_trouble role word = Reserved

abbrev pub form_trouble : Role → PlainSexpr → Trouble
form_trouble role (plain_name span name) = name_trouble role (word_from (plain_name span name))
form_trouble role (plain_list span forms) = list_trouble role (length (forms_list forms) - 1) (forms_list forms)
form_trouble role form = Wanted role

-- How many values a function is given where its list has that many parts behind the keyword: the function itself is none, nor the event of a wrap.
-- What a wrap or a withnack gives it later counts.
abbrev pub given_trouble : Option Word → ℕ → Trouble
given_trouble (Some word.Wrap) given = Given (given - 2 + 1) later.EventValue
given_trouble (Some word.WithNack) given = Given (given - 1 + 1) later.Nack
given_trouble word given = Given (given - 1) later.Nothing

abbrev pub arity_trouble : Role → Option Word → ℕ → Trouble
arity_trouble role.FunctionName word given = MainTakes
arity_trouble role word given = given_trouble word given

abbrev pub limit_trouble : Role → Trouble
limit_trouble role.Item = ManyFunctions
limit_trouble role = ManyStatements

-- what is wrong, by the kind of the fault and by where the form stands
abbrev pub trouble_of : CheckKind → PlainStand → Trouble
trouble_of kind.Form stand = form_trouble stand.role stand.form
trouble_of kind.Double stand = Again
trouble_of kind.Function stand = NoFunction
trouble_of kind.Unbound stand = Undeclared
trouble_of kind.Arity stand = arity_trouble stand.role stand.word stand.given
trouble_of kind.Main stand = NoFunction
trouble_of kind.Limit stand = limit_trouble stand.role

-- What helps: of what kind it is, the name of which it speaks, and where that stands.
pub record PlainHint : Type 0 where
  pub kind : HintKind
  pub name : List ℕ
  pub at : Option ℕ

abbrev pub form_hint : HintKind → PlainSexpr → PlainHint
form_hint kind form = record { kind = kind; name = name_spelled form; at = Some (span_of form).start }

-- the name of the function that an item is
abbrev pub item_hint : HintKind → Option PlainSexpr → Option PlainHint
item_hint kind item = option_map (form_hint kind) (option_and_then (part 1) item)

abbrev pub keyword_hint : List ℕ → PlainHint
keyword_hint spelling = record { kind = hint.Nearest; name = spelling; at = None }

-- A list begins with a name that is no keyword: it may be a function's, or near a keyword.
abbrev pub unknown_hint : List ℕ → List PlainSexpr → Option PlainHint
unknown_hint name items = option_or (item_hint hint.NoKeyword (first_named item_name name items)) (option_map keyword_hint (keyword_near name))

-- the first of the parts behind a keyword that is one too many
abbrev pub surplus : Option ℕ → PlainSexpr → Option PlainSexpr
surplus None form = None
surplus (Some most) form = slice_get (drop 1 (members form)) most

-- the first parameter of this name, of the function in which a byte stands
abbrev pub parameter_over : ℕ → List ℕ → List PlainSexpr → Option PlainSexpr
parameter_over at name items = option_and_then (λ item. first_named name_spelled name (item_parameters item)) (item_over at items)

-- what that function declares
abbrev pub declared_over : Option PlainSexpr → List PlainDeclared
declared_over None = []
declared_over (Some item) = declared_in item

abbrev pub declared_hint : HintKind → PlainDeclared → PlainHint
declared_hint kind declared = form_hint kind declared.form

-- A name that is not declared: it may be known only later, be a function's, or be near a name that is known.
abbrev pub other_hint : ℕ → List ℕ → List PlainSexpr → List PlainDeclared → Option PlainHint
other_hint at name items found = option_or (item_hint hint.NoVariable (first_named item_name name items)) (option_map (declared_hint hint.Declared) (nearest (known_name at) name found))

abbrev pub undeclared_hint : ℕ → List ℕ → List PlainSexpr → List PlainDeclared → Option PlainHint
undeclared_hint at name items found = option_or (option_map (declared_hint hint.KnownLater) (first_named declared_name name found)) (other_hint at name items found)

-- what helps where this trouble is met at this byte, of a name, with a form of a script
abbrev pub hint_of : Trouble → ℕ → List ℕ → PlainSexpr → List PlainSexpr → Option PlainHint
hint_of (Unknown role) at name form items = unknown_hint name items
hint_of (Exceeds word given) at name form items = option_map (form_hint hint.Surplus) (surplus (keyword_entry word).most form)
hint_of Twice at name form items = option_map (form_hint hint.FirstParameter) (parameter_over at name items)
hint_of Undeclared at name form items = undeclared_hint at name items (declared_over (item_over at items))
hint_of NoFunction at name form items = item_hint hint.Declared (nearest item_name name items)
hint_of Again at name form items = item_hint hint.First (first_named item_name name items)
hint_of (Given values later) at name form items = item_hint hint.Declared (first_named item_name name items)
hint_of trouble at name form items = None

-- What is wrong with a script: the trouble; the byte at which it is met, and up to which byte the text is marked from there, where it is shown; the
-- name that is spoken of; the parameters of the function of this name, where there is one; and what helps.
pub record PlainScriptTrouble : Type 0 where
  pub trouble : Trouble
  pub at : ℕ
  pub marked_to : Option ℕ
  pub name : List ℕ
  pub parameters : Option (List PlainSexpr)
  pub hint : Option PlainHint

abbrev pub parameters_of : List ℕ → List PlainSexpr → Option (List PlainSexpr)
parameters_of name items = option_map item_parameters (first_named item_name name items)

-- no form starts there
abbrev pub lost_trouble : ℕ → PlainScriptTrouble
lost_trouble at = record { trouble = Wanted role.Keyword; at = at; marked_to = None; name = []; parameters = None; hint = None }

abbrev pub stand_trouble : CheckKind → ℕ → PlainStand → List ℕ → List PlainSexpr → PlainScriptTrouble
stand_trouble kind at stand name items = record {
  trouble = trouble_of kind stand;
  at = at;
  marked_to = Some (span_of stand.form).end;
  name = name;
  parameters = parameters_of name items;
  hint = hint_of (trouble_of kind stand) at name stand.form items;
}

abbrev pub standing_trouble : CheckKind → ℕ → Option PlainStand → List PlainSexpr → PlainScriptTrouble
standing_trouble kind at None items = lost_trouble at
standing_trouble kind at (Some stand) items = stand_trouble kind at stand (name_said stand.form) items

-- there is no `main`
abbrev pub main_trouble : ℕ → List PlainSexpr → PlainScriptTrouble
main_trouble at items = record { trouble = NoFunction; at = at; marked_to = None; name = codes "main"; parameters = None; hint = item_hint hint.Declared (nearest item_name (codes "main") items) }

abbrev pub trouble_by : CheckKind → ℕ → List PlainSexpr → PlainScriptTrouble
trouble_by kind.Main at items = main_trouble at items
trouble_by kind at items = standing_trouble kind at (standing_at at items) items

abbrev pub script_trouble : List PlainSexpr → PlainCheckFault → PlainScriptTrouble
script_trouble items fault = trouble_by fault.kind fault.at items
