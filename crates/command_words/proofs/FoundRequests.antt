-- What was found for the words of a command tells what is asked for.
use Rattle.std.proofs.Common.{◌≡◌, ◌∙◌, ◌<◌, ◌^◌, ◌↔◌, ℕ, Option, Some, None, IsSome, IsSomeAnd, IfSome, codes, length, ap, sym, refl, arith, true, false}
use Rattle.std.specs.Str.Parse.{IsNumeral, digits_value, without_leading_plus}
use Rattle.clap.specs.Words.{Text, first_of, first_value, one_text, rows_of}
use Rattle.clap.specs.declared.parser.matches.Found.{Found}
use Rattle.clap.proofs.WalkLemmas.{first_value-rows, one_text-rows}
use Rattle.type_graph.specs.declared.width.Order.{Order}
use Rattle.type_graph.specs.declared.width.Order.TheVariants.{Big, Little}
use Rattle.command_words.specs.declared.requests.value.Way.{Way}
use Rattle.command_words.specs.declared.task.ValueTask.{ValueTask}
use Rattle.command_words.specs.Ask.{Value, ValueAsk, value_ask_of}
use Rattle.command_words.specs.declared.requests.value.Form.{Form}
use Rattle.command_words.specs.Words.{TellsPlace, word_of}

pub same_some : (found : Option Text) (a b : Text) → found ≡ Some a → found ≡ Some b → a ≡ b
same_some found a b first second = let both : Some a ≡ Some b = sym first ∙ second in cc

pub some_since : (found : Option Text) (text : Text) → found ≡ Some text → IsSome found
some_since found text is = rw is refl

different : (a b : ℕ) → a ≡ b → (a ≡ b → ⊥) → ⊥
different a b same other = other same

pub order_of : (found : Option Text) (a b : Order) → found ≡ Some (word_of b) → (a ≡ Little)
    ↔ (found ≡ Some (codes "little")) → a ≡ b
order_of found a Little is little = little.1 is
order_of found Big Big is little = refl
order_of found Little Big is little =
    absurd (different 6 3 (ap length (same_some found (codes "little") (codes "big") (little.0 refl) is)) (omega arith))

module _ (found : Found) (way : Way) (form : Form) (input : Text) where
  -- the request has what was found for each word
  pub record IsRequest (asked : ValueTask) : Type 0 where
    pub way_is : asked.request.way ≡ way
    pub form_is : asked.form ≡ form
    pub input_is : asked.input.now ≡ input
    pub table : first_value found (codes "T") ≡ Some asked.table.now
    pub name : first_value found (codes "NAME") ≡ Some asked.request.name.now
    pub order : (asked.request.order ≡ Little) ↔ (first_value found (codes "ORDER") ≡ Some (codes "little"))
    pub pos : (text : Text) → one_text found (codes "POS") ≡ Some text
        → digits_value 10 (without_leading_plus text) ≡ asked.request.pos

  -- nothing is missing where each word was found
  abbrev pub IsWhole : Option ValueTask → Type 0
  IsWhole result = IsSome (first_value found (codes "T"))
      → IsSome (first_value found (codes "NAME"))
      → IsSome (first_value found (codes "ORDER"))
      → (text : Text) → one_text found (codes "POS") ≡ Some text
      → IsNumeral 10 (without_leading_plus text)
      → digits_value 10 (without_leading_plus text) < 2 ^ 64 → IsSome result

  module _ (ask : ValueAsk) (tells : TellsPlace (rows_of found) ask) where
    found_first : (id text : Text) → first_of id (rows_of found) ≡ Some text → first_value found id ≡ Some text
    found_first id text is = first_value-rows found id ∙ is

    digits_are : one_text found (codes "POS") ≡ Some tells.pos.digits
    digits_are = one_text-rows found (codes "POS") ∙ tells.pos.found

    pub is_asked : (asked : ValueTask) → way ≡ ask.value.way → form ≡ ask.form → input ≡ ask.value.input
        → IsRequest asked
        → value_ask_of asked ≡ ask
    is_asked asked way_is form_is input_is is =
        let table : asked.table.now ≡ ask.table = same_some _ _ _ is.table (found_first _ _ tells.table) in
        let name : asked.request.name.now ≡ ask.value.name = same_some _ _ _ is.name (found_first _ _ tells.name) in
        let order : asked.request.order ≡ ask.value.order = order_of _ _ _ (found_first _ _ tells.order) is.order in
        let pos : asked.request.pos ≡ ask.value.pos = sym (is.pos tells.pos.digits digits_are) ∙ tells.pos.is in
        rw (is.way_is ∙ way_is, is.form_is ∙ form_is, is.input_is ∙ input_is, table, name, order, pos) refl

    pub some_asked : (result : Option ValueTask) → IsWhole result → IsSome result
    some_asked result whole =
        whole (some_since _ _ (found_first _ _ tells.table)) (some_since _ _ (found_first _ _ tells.name))
        (some_since _ _ (found_first _ _ tells.order))
        tells.pos.digits digits_are tells.pos.numeral (rw tells.pos.is tells.pos.fits)

    pub asked : (result : Option ValueTask) → way ≡ ask.value.way → form ≡ ask.form → input ≡ ask.value.input
        → IsWhole result
        → IfSome result IsRequest
        → IsSomeAnd result (λ asked. Value (value_ask_of asked) ≡ Value ask)
    asked None way_is form_is input_is whole is =
        let bad : false ≡ true = some_asked None whole in absurd cc
    asked (Some it) way_is form_is input_is whole is = ap Value (is_asked it way_is form_is input_is is)
