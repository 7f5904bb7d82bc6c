-- What was found for the words of the commands for references and for explanations tells what is asked for.
use Rattle.std.proofs.Common.{◌≡◌, ◌∙◌, ◌<◌, ◌^◌, Option, Some, None, IsSome, IsSomeAnd, IfSome, codes, ap, sym, refl, true, false}
use Rattle.std.specs.Str.Parse.{IsNumeral, digits_value, without_leading_plus}
use Rattle.clap.specs.Words.{Text, first_of, first_value, one_text, rows_of}
use Rattle.clap.specs.declared.parser.matches.Found.{Found}
use Rattle.clap.proofs.WalkLemmas.{first_value-rows, one_text-rows}
use Rattle.command_words.specs.declared.task.ReferenceTask.{ReferenceTask}
use Rattle.command_words.specs.Ask.{Reference, ReferenceAsk, reference_ask_of}
use Rattle.command_words.specs.Words.{TellsReference}
use Rattle.command_words.proofs.FoundRequests.{same_some, some_since}

module _ (found : Found) where
  -- the reference has what was found for each word
  pub record IsRequest (asked : ReferenceTask) : Type 0 where
    pub table : first_value found (codes "T") ≡ Some asked.table.now
    pub host : first_value found (codes "host") ≡ Some asked.wanted.host.now
    pub port : (text : Text) → one_text found (codes "port") ≡ Some text
        → digits_value 10 (without_leading_plus text) ≡ asked.wanted.port
    pub object : first_value found (codes "object") ≡ Some asked.wanted.object.now

  -- nothing is missing where each word was found
  abbrev pub IsWhole : Option ReferenceTask → Type 0
  IsWhole result = IsSome (first_value found (codes "T"))
      → IsSome (first_value found (codes "host"))
      → IsSome (first_value found (codes "object"))
      → (text : Text) → one_text found (codes "port") ≡ Some text
      → IsNumeral 10 (without_leading_plus text)
      → digits_value 10 (without_leading_plus text) < 2 ^ 16 → IsSome result

  module _ (ask : ReferenceAsk) (tells : TellsReference (rows_of found) ask) where
    found_first : (id text : Text) → first_of id (rows_of found) ≡ Some text → first_value found id ≡ Some text
    found_first id text is = first_value-rows found id ∙ is

    digits_are : one_text found (codes "port") ≡ Some tells.port.digits
    digits_are = one_text-rows found (codes "port") ∙ tells.port.found

    is_asked : (asked : ReferenceTask) → IsRequest asked → reference_ask_of asked ≡ ask
    is_asked asked is =
        let table : asked.table.now ≡ ask.table = same_some _ _ _ is.table (found_first _ _ tells.table) in
        let host : asked.wanted.host.now ≡ ask.parts.host = same_some _ _ _ is.host (found_first _ _ tells.host) in
        let port : asked.wanted.port ≡ ask.parts.port = sym (is.port tells.port.digits digits_are) ∙ tells.port.is in
        let object : asked.wanted.object.now ≡ ask.parts.object =
        same_some _ _ _ is.object (found_first _ _ tells.object) in
        rw (table, host, port, object) refl

    some_asked : (result : Option ReferenceTask) → IsWhole result → IsSome result
    some_asked result whole =
        whole (some_since _ _ (found_first _ _ tells.table)) (some_since _ _ (found_first _ _ tells.host))
        (some_since _ _ (found_first _ _ tells.object)) tells.port.digits digits_are tells.port.numeral
        (rw tells.port.is tells.port.fits)

    pub asked : (result : Option ReferenceTask) → IsWhole result
        → IfSome result (λ asked. first_value found (codes "T") ≡ Some asked.table.now)
        → IfSome result (λ asked. first_value found (codes "host") ≡ Some asked.wanted.host.now)
        → IfSome result (λ asked. (text : Text) → one_text found (codes "port") ≡ Some text
        → digits_value 10 (without_leading_plus text) ≡ asked.wanted.port)
        → IfSome result (λ asked. first_value found (codes "object") ≡ Some asked.wanted.object.now)
        → IsSomeAnd result (λ asked. Reference (reference_ask_of asked) ≡ Reference ask)
    asked None whole table host port object = let bad : false ≡ true = some_asked None whole in absurd cc
    asked (Some it) whole table host port object =
        ap Reference (is_asked it (record { table = table; host = host; port = port; object = object }))
