-- What is known of a value and of a refusal, put together.
use Rattle.std.proofs.Common.{◌≡◌, ◌≤◌, ◌∙◌, ap, sym, subst, append_assoc, ℕ, List, [], ◌∷◌, ◌++◌, Contains, length, take, IfOk, IfErr, IsErr, Result, Ok, Err}
use Rattle.std.specs.Bool.{OnFalse}
use Rattle.std.specs.Fmt.{decimal}
use Rattle.hex.specs.Hex.{decode_of}
use Rattle.type_graph.specs.declared.node.Node.{Node}
use Rattle.type_graph.specs.declared.width.Order.{Order}
use Rattle.type_graph.specs.Words.{reading}
use Rattle.type_graph.specs.Encoding.{Means}
use Rattle.program_runner.specs.Refusal.{wants_memory as run_wants_memory}
use Rattle.program_steps.specs.declared.fault.RunFault.{RunFault}
use Rattle.program_steps.specs.declared.fault.RunFault.TheVariants as runs
use Rattle.table_file.specs.Table.{TableParts}
use Rattle.command_words.specs.Requests.{Ask}
use Rattle.command_tables.specs.Refusal.{wants_memory, refusal_of_run, refusal_of_text}
use Rattle.command_tables.specs.declared.refusal.Refusal.{Refusal}
use Rattle.command_tables.specs.declared.refusal.Refusal.TheVariants.{NoType, BadHex, Refused, NoMemory}
use Rattle.command_words.specs.declared.requests.value.Way.{Way}
use Rattle.command_words.specs.declared.requests.value.Way.TheVariants.{Encode, Decode}
use Rattle.value_text.specs.Refusal.{wants_memory as text_wants_memory}
use Rattle.value_text.specs.declared.fault.ReadFault.{ReadFault}
use Rattle.value_text.specs.declared.fault.ReadFault.TheVariants as texts
use Rattle.value_text.specs.Tapes.{IsTextOfTape}
use Rattle.command_texts.specs.Lines.{HasNone, IsRefusalAt, IsTextLine, IsTextRefusal, Labels, Prints, PrintsTextOf, SaysNone}
use Rattle.command_texts.specs.inner.Tapes.{IsOfRun, IsTextOf}

-- the line has the text of the value that the octets encode
pub text_is : (labels : Labels) (graph lent : List Node) (node : ℕ) (order : Order) (pos : ℕ)
    (tape slice octets line : List ℕ) (taken : ℕ)
    → lent ≡ graph → slice ≡ tape → taken ≤ length octets
    → Means graph (reading order) 64 node pos tape (take taken octets)
    → IsTextOf labels lent node taken slice line → PrintsTextOf labels graph node order pos octets line
text_is labels graph lent node order pos tape slice octets line taken graph_is tape_is within means told =
    let text : IsTextOf labels graph node taken tape line =
    subst (λ (t : List ℕ). IsTextOf labels graph node taken t line) tape_is
    (subst (λ (g : List Node). IsTextOf labels g node taken slice line) graph_is told) in
    record {
      taken = taken;
      within = within;
      value = text.value;
      fits = text.fits;
      means = subst (λ (t : List ℕ). Means graph (reading order) 64 node pos t (take taken octets)) (sym text.tape_is)
          means;
      line_is = text.line_is;
    }

-- a line feed behind the last of three parts
pub behind : (count text words line : List ℕ) → line ≡ count ++ 32 ∷ words → words ≡ text ++ 10 ∷ []
    → line ≡ count ++ 32 ∷ text ++ 10 ∷ []
behind count text words line is words_are = is ∙ ap (λ (w : List ℕ). count ++ 32 ∷ w) words_are
    ∙ sym (append_assoc count (32 ∷ text) (10 ∷ []))

-- the text of a value stands behind the count
pub told : (labels : Labels) (graph : List Node) (node taken : ℕ) (tape text line : List ℕ)
    → IsTextOfTape labels graph node tape text → line ≡ decimal taken ++ 32 ∷ text ++ 10 ∷ []
    → IsTextOf labels graph node taken tape line
told labels graph node taken tape text line of is = record {
  value = of.value;
  fits = of.fits;
  tape_is = of.tape_is;
  line_is = is ∙ ap (λ (t : List ℕ). decimal taken ++ 32 ∷ t ++ 10 ∷ []) of.text_is;
}

pub of_run : (fault : RunFault) (fact : Type 0) → OnFalse (run_wants_memory fault) fact
    → IsOfRun (refusal_of_run fault) fact
of_run runs.NoMemory fact h = tt
of_run fault fact h = h

module _ (labels : Labels) (graph : List Node) (node : ℕ) (ask : Ask) where
  -- the text says no value
  pub unsaid : (fault : ReadFault) → OnFalse (text_wants_memory fault) (SaysNone labels graph node ask)
      → IsRefusalAt Encode labels graph node ask (refusal_of_text fault)
  unsaid texts.NoMemory h = tt
  unsaid (texts.Refused fault) h = h

  -- the run was refused
  pub refused_run : (way : Way) (fact : Type 0) → (fact → HasNone way labels graph node ask) → (refusal : Refusal)
      → IsOfRun refusal fact
      → IsRefusalAt way labels graph node ask refusal
  refused_run Encode fact none NoMemory h = tt
  refused_run Decode fact none NoMemory h = tt
  refused_run Encode fact none (Refused fault) h = none h
  refused_run Decode fact none (Refused fault) h = none h
  refused_run way fact none refusal h = absurd h

  -- the digits are none
  pub bad_digits : (refusal : Refusal)
      → OnFalse (wants_memory refusal) ((refusal ≡ BadHex) × IsErr (decode_of ask.input))
      → IsRefusalAt Decode labels graph node ask refusal
  bad_digits NoMemory h = tt
  bad_digits BadHex h = h.1
  bad_digits refusal h = absurd cc

module _ {A : Type 0} (text_of : A → List ℕ) where
  pub run_refused : (way : Way) (labels : Labels) (graph : List Node) (node : ℕ) (ask : Ask) (fact : Type 0)
      → (fact → HasNone way labels graph node ask) → (r : Result A Refusal) → IfErr r (λ refusal. IsOfRun refusal fact)
      → IfErr r (IsRefusalAt way labels graph node ask)
  run_refused way labels graph node ask fact none (Ok line) h = tt
  run_refused way labels graph node ask fact none (Err refusal) h =
      refused_run labels graph node ask way fact none refusal h

  module _ (table : TableParts) (labels : Labels) (ask : Ask) (node : ℕ)
      (named : Contains table.model.names (ask.name, node)) where
    pub line_of : (r : Result A Refusal)
        → IfOk r (λ line. Prints ask.way labels table.model.graph node ask (text_of line))
        → IfOk r (λ line. IsTextLine table labels ask (text_of line))
    line_of (Ok line) prints = record { node = node; named = named; prints = prints }
    line_of (Err refusal) prints = tt

    not_named : (refusal : Refusal) → IsRefusalAt ask.way labels table.model.graph node ask refusal
        → IsTextRefusal table labels ask refusal
    not_named (NoType name) h = absurd (by_way ask.way h) where
      by_way : (way : Way) → IsRefusalAt way labels table.model.graph node ask (NoType name) → ⊥
      by_way Encode h = h
      by_way Decode h = h
    not_named refusal h = record { node = node; named = named; refused = h }

    pub refusal_of : (r : Result A Refusal) → IfErr r (IsRefusalAt ask.way labels table.model.graph node ask)
        → IfErr r (IsTextRefusal table labels ask)
    refusal_of (Ok line) h = tt
    refusal_of (Err refusal) h = not_named refusal h
