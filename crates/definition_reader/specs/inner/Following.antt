-- That a reader goes where the way over tokens goes.
use Rattle.std.specs.Prelude.{◌≡◌, ◌≤◌, ◌⊎◌, ℕ, Bool, true, false, List, [], Option, Some, None, codes, length}
use Rattle.idl_tree.specs.Pieces.{Seen}
use Rattle.idl_tree.specs.Descent.{Way, repeated, opened, and_then, mark_taken, named_way, braced_way, no_brace, case_way, type_way, open_sequence_way, simple_type_way, end_sequence_way}
use Rattle.idl_tree.specs.DefinitionDescent.{raises_way, definitions_way}
use Rattle.definition_reader.specs.declared.stop.Stop.{Stop}
use Rattle.definition_reader.specs.declared.stop.Stop.TheVariants.{NoMemory}

-- a reader that stopped so was refused memory, or the way leads nowhere
abbrev pub Ends : Way → Stop → Type 0
Ends way stop = (stop ≡ NoMemory) ⊎ (way ≡ None)

-- parts were read one after another as long as there was one, from some tokens up to others
pub record Going (goes : List Seen → Bool) (one : List Seen → Way) (start now : List Seen) : Type 0 where
  pub fuel : List Seen
  pub enough : length now ≤ length fuel
  pub same : repeated goes one start start ≡ repeated goes one fuel now

-- ---- ways of parts that the grammar has no word for

-- a sequence, which is a level
abbrev pub sequence_way : ℕ → List Seen → Way
sequence_way room t =
    opened room (λ left. and_then (open_sequence_way t)
    (λ u. and_then (simple_type_way left u) (λ v. end_sequence_way left v)))

-- a union behind the type of its discriminator
abbrev pub union_body_way : ℕ → List Seen → Way
union_body_way left t =
    and_then (mark_taken (codes ")") t) (λ u. and_then (mark_taken (codes "{") u)
    (λ v. braced_way (λ w. case_way (λ x. type_way left x) left w) v))

-- an exception up to its members
abbrev pub except_name_way : List Seen → Way
except_name_way t = and_then (named_way (codes "exception") t) (λ u. mark_taken (codes "{") u)

-- what an attribute raises that can be set
abbrev pub settable_way : List Seen → Way
settable_way t = and_then (raises_way (codes "getraises") t) (λ u. raises_way (codes "setraises") u)

-- what an attribute raises
abbrev pub raising_way : Bool → List Seen → Way
raising_way true t = raises_way (codes "raises") t
raising_way false t = settable_way t

-- a module without what tells that it is one
abbrev pub module_way : ℕ → List Seen → Way
module_way left t =
    and_then (named_way (codes "module") t)
    (λ u. and_then (mark_taken (codes "{") u) (λ v. and_then (definitions_way left v)
    (λ w. and_then (mark_taken (codes "}") w) (λ x. mark_taken (codes ";") x))))

-- ---- parts between braces, one or more

-- one part was read and those behind it, up to a place
pub record Began (part : List Seen → Way) (start now : List Seen) : Type 0 where
  pub first : List Seen
  pub is : part start ≡ Some first
  pub going : Going no_brace part first now

-- a part has to follow: it is the first, or others were read and no brace stands there
abbrev pub Bracing : (List Seen → Way) → List Seen → List Seen → Type 0
Bracing part start now = (now ≡ start) ⊎ (Began part start now × (no_brace now ≡ true))
