-- What was found for the words of a call tells what is called.
use Rattle.std.proofs.Common.{◌≡◌, ◌∙◌, ◌<◌, ◌^◌, ◌↔◌, ◌⊎◌, inl, inr, ℕ, Bool, true, false, List, Option, Some, None, codes, length, ap, sym, refl, arith, option_map}
use Rattle.std.specs.Str.Parse.{IsNumeral, digits_value, without_leading_plus}
use Rattle.clap.specs.Words.{Text, first_of, first_value, one_of, one_text, rows_of}
use Rattle.clap.specs.declared.parser.matches.Found.{Found}
use Rattle.clap.proofs.WalkLemmas.{first_value-rows, one_text-rows}
use Rattle.type_graph.specs.declared.width.Order.{Order}
use Rattle.type_graph.specs.declared.width.Order.TheVariants.{Big, Little}
use Rattle.command_words.specs.Ask.{CallAsk, call_ask_of}
use Rattle.command_words.specs.declared.task.CallTask.{CallTask}
use Rattle.command_words.specs.Words.{TellsCall, TellsExplain, TellsOption, TellsOrder, word_of, word_of_flag}
use Rattle.command_words.proofs.FoundRequests.{order_of, same_some}

module _ (found : Found) where
  -- the number is that of the option, or that of none
  pub number_is : (id : Text) (of_none number result : ℕ) → TellsOption id of_none (rows_of found) number
      → ((text : Text) → one_text found id ≡ Some text → IsNumeral 10 (without_leading_plus text)
      → digits_value 10 (without_leading_plus text) < 2 ^ 32 → digits_value 10 (without_leading_plus text) ≡ result)
      → (one_text found id ≡ None → result ≡ of_none) → result ≡ number
  number_is id of_none number result (inl whole) some none =
      sym (some whole.digits (one_text-rows found id ∙ whole.found) whole.numeral (rw whole.is whole.fits)) ∙ whole.is
  number_is id of_none number result (inr left_out) some none = none (one_text-rows found id ∙ left_out.0)
      ∙ sym left_out.1

  no_little : (order : Order) → (order ≡ Little) ↔ (first_value found (codes "order") ≡ Some (codes "little"))
      → first_of (codes "order") (rows_of found) ≡ None → order ≡ Big
  no_little Big little none = refl
  no_little Little little none =
      let bad : Some (codes "little") ≡ None = sym (little.0 refl) ∙ first_value-rows found (codes "order") ∙ none in
      absurd cc

  -- so the byte order
  pub order_is : (order result : Order) → TellsOrder (rows_of found) order
      → (result ≡ Little) ↔ (first_value found (codes "order") ≡ Some (codes "little")) → result ≡ order
  order_is order result (inl is) little = order_of _ result order (first_value-rows found (codes "order") ∙ is) little
  order_is order result (inr left_out) little = no_little result little left_out.0 ∙ sym left_out.1

  -- a flag that stands there, or doesn't
  pub flag_is : (id : Text) (flag result : Bool) → one_of id (rows_of found) ≡ Some (word_of_flag flag)
      → (one_text found id ≡ Some (codes "true") → result ≡ true)
      → (one_text found id ≡ Some (codes "false") → result ≡ false) → result ≡ flag
  flag_is id true result is on off = on (one_text-rows found id ∙ is)
  flag_is id false result is on off = off (one_text-rows found id ∙ is)

  pub explain_is : (flag result : Bool) → TellsExplain (rows_of found) flag
      → (one_text found (codes "explain") ≡ None → result ≡ false)
      → (one_text found (codes "explain") ≡ Some (codes "true") → result ≡ true)
      → (one_text found (codes "explain") ≡ Some (codes "false") → result ≡ false) → result ≡ flag
  explain_is flag result (inl is) none on off = flag_is (codes "explain") flag result is on off
  explain_is flag result (inr left_out) none on off = none (one_text-rows found (codes "explain") ∙ left_out.0)
      ∙ sym left_out.1

  pub found_is : (id a b : Text) → Some a ≡ first_value found id → first_of id (rows_of found) ≡ Some b → a ≡ b
  found_is id a b is there = same_some (first_value found id) a b (sym is) (first_value-rows found id ∙ there)

  pub not_lost : (id b : Text) → None ≡ first_value found id → first_of id (rows_of found) ≡ Some b → ⊥
  not_lost id b lost there =
      let bad : None ≡ Some b = lost ∙ first_value-rows found id ∙ there in absurd cc
