-- The names in a script: what its forms are called, what a function declares, and which of several names is nearest to one.
use Rattle.std.specs.Prelude.{ℕ, Bool, nat_eq, nat_lt, nat_le, ◌&&◌, ◌||◌, if◌then◌else◌, List, [], ◌∷◌, ◌++◌, drop, length, map, find, slice_get, Option, Some, None}
use Rattle.std.specs.Option.{option_or}
use Rattle.std.specs.Str.{bytes_eq}
use Rattle.cml_text.specs.declared.sexpr.Span.{Span}
use Rattle.cml_text.specs.Forms.{PlainSexpr, plain_name, plain_list, PlainForms, no_forms, forms_and, forms_list, span_of}
use Rattle.cml_check.specs.declared.word.Word.TheVariants as word
use Rattle.cml_check.specs.Words.{word_spelling, all_words}

-- how a name is spelled; nothing where it is no name
abbrev pub name_spelled : PlainSexpr → List ℕ
name_spelled (plain_name span name) = name
name_spelled _ = []

-- the forms of a list; none where it is no list
abbrev pub members : PlainSexpr → List PlainSexpr
members (plain_list span forms) = forms_list forms
members _ = []

abbrev pub part : ℕ → PlainSexpr → Option PlainSexpr
part n form = slice_get (members form) n

abbrev pub spelled_in : Option PlainSexpr → List ℕ
spelled_in None = []
spelled_in (Some form) = name_spelled form

abbrev pub members_in : Option PlainSexpr → List PlainSexpr
members_in None = []
members_in (Some form) = members form

-- the name that a form is, or that a list begins with
abbrev pub name_said : PlainSexpr → List ℕ
name_said (plain_name span name) = name
name_said form = spelled_in (part 0 form)

-- the name of the function that an item is, and its parameters
abbrev pub item_name : PlainSexpr → List ℕ
item_name item = spelled_in (part 1 item)

abbrev pub item_parameters : PlainSexpr → List PlainSexpr
item_parameters item = members_in (part 2 item)

-- what is left of two names behind the letters with which both begin
abbrev pub past_common : List ℕ → List ℕ → List ℕ × List ℕ
past_common (x ∷ xs) (y ∷ ys) = if nat_eq x y then past_common xs ys else (x ∷ xs, y ∷ ys)
past_common [] ys = ([], ys)
past_common (x ∷ xs) [] = (x ∷ xs, [])

-- Two names are near by a test where, behind what both begin with, the test holds once a letter is left out of the first, of the second, or of each.
abbrev pub near_by : (List ℕ → List ℕ → Bool) → List ℕ × List ℕ → Bool
near_by test left = test (drop 1 left.0) left.1 || (test left.0 (drop 1 left.1) || test (drop 1 left.0) (drop 1 left.1))

-- they differ by one letter at most; by two
abbrev pub within_one : List ℕ → List ℕ → Bool
within_one xs ys = near_by bytes_eq (past_common xs ys)

abbrev pub within_two : List ℕ → List ℕ → Bool
within_two xs ys = near_by within_one (past_common xs ys)

-- the name has more than one letter (two), and the other differs from it by one at most (two)
abbrev pub is_next : List ℕ → List ℕ → Bool
is_next name other = nat_lt 1 (length name) && within_one name other

abbrev pub is_close : List ℕ → List ℕ → Bool
is_close name other = nat_lt 2 (length name) && within_two name other

-- Of things that have names: the first of this name; and the nearest, the first that differs by one letter, or where there is none, by two.
abbrev pub first_named : {A : Type 0} → (A → List ℕ) → List ℕ → List A → Option A
first_named name_of name found = find (λ x. bytes_eq (name_of x) name) found

abbrev pub nearest : {A : Type 0} → (A → List ℕ) → List ℕ → List A → Option A
nearest name_of name found = option_or (find (λ x. is_next name (name_of x)) found) (find (λ x. is_close name (name_of x)) found)

-- the keyword that is nearest to a name
abbrev pub keyword_near : List ℕ → Option (List ℕ)
keyword_near name = nearest (λ spelling. spelling) name (map word_spelling all_words)

-- a name that a function declares, and the byte from which on it is known
pub record PlainDeclared : Type 0 where
  pub form : PlainSexpr
  pub known_from : ℕ

abbrev pub declared_name : PlainDeclared → List ℕ
declared_name declared = name_spelled declared.form

-- the name, where it is known at a byte; else nothing
abbrev pub known_name : ℕ → PlainDeclared → List ℕ
known_name at declared = if nat_le declared.known_from at then declared_name declared else []

-- a parameter is known from its end on
abbrev pub parameter_declared : PlainSexpr → PlainDeclared
parameter_declared form = record { form = form; known_from = (span_of form).end }

-- what a list of this span declares itself: the name after `let`, known from the end of the list on
abbrev pub let_declared : Span → List PlainSexpr → List PlainDeclared
let_declared span (first ∷ name ∷ behind) = if bytes_eq (name_spelled first) (word_spelling word.Let) then record { form = name; known_from = span.end } ∷ [] else []
let_declared span _ = []

unfoldable mutual
  -- what is declared in a form, from the left
  pub lets_in : PlainSexpr → List PlainDeclared
  lets_in (plain_list span forms) = let_declared span (forms_list forms) ++ lets_among forms
  lets_in _ = []

  pub lets_among : PlainForms → List PlainDeclared
  lets_among no_forms = []
  lets_among (forms_and form forms) = lets_in form ++ lets_among forms

-- what an item declares: its parameters, and then what is declared in it
abbrev pub declared_in : PlainSexpr → List PlainDeclared
declared_in item = map parameter_declared (item_parameters item) ++ lets_in item
