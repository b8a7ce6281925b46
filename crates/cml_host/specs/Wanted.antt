-- What must hold of runs, as the arguments give it: the properties of their texts and of a file, or what is wrong with one of these.
use Rattle.std.specs.Prelude.{◌≡◌, ◌⊎◌, ℕ, Bool, true, false, List, [], ◌∷◌, ◌++◌, codes, map, Option, Some, None, option_map, Ok, Err}
use Rattle.cml_arguments.specs.declared.PropertyOptions.{PropertyOptions}
use Rattle.cml_check.specs.Syntax.{Name}
use Rattle.cml_properties.specs.Faults.{property_fault_line}
use Rattle.cml_properties.specs.Kinds.{kind_word}
use Rattle.cml_properties.specs.Reading.{PatternsGive, TextSays}
use Rattle.cml_properties.specs.declared.fault.PropertyFault.TheVariants.{At}
use Rattle.cml_properties.specs.declared.fault.PropertyFaultKind.{PropertyFaultKind}
use Rattle.cml_properties.specs.declared.kind.PropertyKind.{PropertyKind}
use Rattle.cml_properties.specs.declared.kind.PropertyKind.TheVariants.{Never, Always, Once, Before}
use Rattle.cml_properties.specs.declared.property.Property.{Property}
use Rattle.cml_properties.specs.declared.property.Property.TheVariants as property
use Rattle.cml_text.specs.Lines.{line}
use Rattle.cml_host.specs.Refused.{Fault, IsExplained, IsUnread}
use Rattle.cml_host.specs.Scripts.{IsWholeText}
use Rattle.cml_host.specs.Stores.{Content}
use Rattle.cml_host.specs.declared.wanted.Alike.{Alike}

-- these texts give these properties of one kind, in their order
abbrev pub AreGiven : PropertyKind → List Name → List Property → Type 0
AreGiven kind [] [] = Unit {0}
AreGiven kind (given ∷ others) (found ∷ properties) = PatternsGive kind 0 0 given (Ok found) × AreGiven kind others properties
AreGiven kind _ _ = ⊥

-- nothing that compares runs is asked for
abbrev pub alone : Alike
alone = record { lines = false; order = false }

-- a property, where it is asked for
abbrev pub property_if : Bool → Property → List Property
property_if true p = p ∷ []
property_if false p = []

-- the properties that the file of this name says, if one is given
abbrev pub FileSays : Option Name → (List ℕ → Content) → List Property → Type 0
FileSays None held more = more ≡ []
FileSays (Some name) held more = (text : List ℕ) × IsWholeText (held name) text × TextSays text (Ok more)

-- These properties are those that the arguments give: one kind after another, each in the order of its texts, and last those of the file.
pub record AreWanted (options : PropertyOptions) (alike : Alike) (held : List ℕ → Content) (properties : List Property) : Type 0 where
  pub never : List Property
  pub never_are : AreGiven Never (map (λ text. text.now) options.never.items) never
  pub always : List Property
  pub always_are : AreGiven Always (map (λ text. text.now) options.always.items) always
  pub once : List Property
  pub once_are : AreGiven Once (map (λ text. text.now) options.once.items) once
  pub before : List Property
  pub before_are : AreGiven Before (map (λ text. text.now) options.before.items) before
  pub more : List Property
  pub more_are : FileSays (option_map (λ name. name.now) options.file) held more
  pub all : properties ≡ (never ++ (always ++ (once ++ (before ++ (property_if alike.lines property.SameLines
      ++ (property_if alike.order property.SameOrder ++ (property_if options.empty property.Empty ++ more)))))))

-- ---- what is wrong with them

-- the line that says what is wrong with the text of an option
abbrev pub option_line : PropertyKind → PropertyFaultKind → ℕ → List ℕ
option_line kind why at = line (codes "--" ++ (kind_word kind ++ (codes ": " ++ property_fault_line (At why at))))

-- this text gives no property of this kind, and this tells why
abbrev pub IsBadPattern : Bool → PropertyKind → Name → Fault
IsBadPattern explains kind given told status =
    (why : PropertyFaultKind) × (at : ℕ) × PatternsGive kind 0 0 given (Err (At why at)) × IsExplained explains (option_line kind why at) told × (status ≡ 1)

-- one of these texts gives none, and this tells the first such
abbrev pub IsNoPattern : Bool → PropertyKind → List Name → Fault
IsNoPattern explains kind [] told status = ⊥
IsNoPattern explains kind (given ∷ others) told status =
    IsBadPattern explains kind given told status
    ⊎ (((found : Property) × PatternsGive kind 0 0 given (Ok found)) × IsNoPattern explains kind others told status)

-- the line that says what is wrong with a file of properties
abbrev pub file_line : PropertyFaultKind → ℕ → List ℕ
file_line why at = line (property_fault_line (At why at))

-- this text says no properties, and this tells its first fault
abbrev pub SaysNone : Bool → List ℕ → Fault
SaysNone explains text told status =
    (why : PropertyFaultKind) × (at : ℕ) × TextSays text (Err (At why at)) × IsExplained explains (file_line why at) told × (status ≡ 2)

-- the file says no properties, and this tells its first fault
abbrev pub FileSaysNone : Bool → Option Name → (List ℕ → Content) → Fault
FileSaysNone explains None held told status = ⊥
FileSaysNone explains (Some name) held told status =
    ((text : List ℕ) × IsWholeText (held name) text × SaysNone explains text told status) ⊎ IsUnread explains name (held name) told status

-- what is wrong: with the texts of an option, of which the first kind is told; or with the file
abbrev pub IsUnwanted : Bool → PropertyOptions → (List ℕ → Content) → Fault
IsUnwanted explains options held told status =
    IsNoPattern explains Never (map (λ text. text.now) options.never.items) told status
    ⊎ IsNoPattern explains Always (map (λ text. text.now) options.always.items) told status
    ⊎ IsNoPattern explains Once (map (λ text. text.now) options.once.items) told status
    ⊎ IsNoPattern explains Before (map (λ text. text.now) options.before.items) told status
    ⊎ FileSaysNone explains (option_map (λ name. name.now) options.file) held told status
