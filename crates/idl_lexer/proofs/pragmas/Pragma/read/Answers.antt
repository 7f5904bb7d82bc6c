use Rattle.std.proofs.Common.{◌≡◌, ◌∙◌, ℕ, List, codes, take, drop, ap, sym}
use Rattle.std.specs.Str.{IsAscii}
use Rattle.std.proofs.lemmas.Str.{IsAscii-drop, IsAscii-take}
use Rattle.idl_lexer.specs.Directives.{before_quote, from_quote, past_word, pragma_part, pragma_word, version_number, version_place, word_of}
use Rattle.idl_lexer.proofs.PragmaParts.{id_scoped, rest_ascii, version_scoped, version_word}
use Rattle.idl_lexer.proofs.pragmas.Pragma.read.Goals as goal

part : (whole t : List ℕ) → t ≡ whole → IsAscii whole → IsAscii t
part whole t e h i = rw e (h i)

pub ascii_text-requires : goal.ascii_text-requires
ascii_text-requires c =
    let rest = c.split_word.ensures.rest
    ∙ ap past_word (c.behind_pragma.ensures ∙ ap pragma_part c.as_bytes.ensures.value) in
    part _ _ (c.split_at_quote.ensures.before ∙ ap before_quote (c.behind_first.ensures ∙ ap (drop 1) rest))
    (IsAscii-take _ _ (IsAscii-drop _ 1 (rest_ascii c.args.text.now c.requires)))

pub ascii_text-requires-then-is_word-2 : goal.ascii_text-requires-then-is_word-2
ascii_text-requires-then-is_word-2 c =
    let rest = c.split_word.ensures.rest
    ∙ ap past_word (c.behind_pragma.ensures ∙ ap pragma_part c.as_bytes.ensures.value) in
    part _ _ (c.split_at_quote-then-is_word-2.ensures.before ∙ ap before_quote rest)
    (IsAscii-take _ _ (rest_ascii c.args.text.now c.requires))

pub ascii_text-requires-then-is_word-2-2 : goal.ascii_text-requires-then-is_word-2-2
ascii_text-requires-then-is_word-2-2 c =
    let rest = c.split_word.ensures.rest
    ∙ ap past_word (c.behind_pragma.ensures ∙ ap pragma_part c.as_bytes.ensures.value) in
    let whole : IsAscii c.split_word.result.1.now = part _ _ rest (rest_ascii c.args.text.now c.requires) in
    let quoted : IsAscii c.split_at_quote-then-is_word-2.result.1.now =
    part _ _ c.split_at_quote-then-is_word-2.ensures.from (IsAscii-drop _ _ whole) in
    let inner : IsAscii c.behind_first-then-is_word-2.result.now =
    part _ _ c.behind_first-then-is_word-2.ensures (IsAscii-drop _ 1 quoted) in
    part _ _ c.split_at_quote-then-is_word-2-2.ensures.before (IsAscii-take _ _ inner)

pub ascii_text-requires-else-is_word-2 : goal.ascii_text-requires-else-is_word-2
ascii_text-requires-else-is_word-2 c =
    let rest = c.split_word.ensures.rest
    ∙ ap past_word (c.behind_pragma.ensures ∙ ap pragma_part c.as_bytes.ensures.value) in
    part _ _ c.split_at.ensures.front (IsAscii-take _ _ (part _ _ rest (rest_ascii c.args.text.now c.requires)))

pub ascii_text-requires-else-is_word-2-2 : goal.ascii_text-requires-else-is_word-2-2
ascii_text-requires-else-is_word-2-2 c =
    let rest = c.split_word.ensures.rest
    ∙ ap past_word (c.behind_pragma.ensures ∙ ap pragma_part c.as_bytes.ensures.value) in
    part _ _ c.split_at-else-is_word-2.ensures.front
    (IsAscii-take _ _ (part _ _ c.split_at.ensures.back
    (IsAscii-drop _ _ (part _ _ rest (rest_ascii c.args.text.now c.requires)))))

pub returns-then-is_word-2 : goal.returns-then-is_word-2
returns-then-is_word-2 c =
    let found = c.behind_pragma.ensures ∙ ap pragma_part c.as_bytes.ensures.value in
    let rest = c.split_word.ensures.rest ∙ ap past_word found in
    let word : pragma_word c.args.text.now ≡ codes "ID" = sym (c.split_word.ensures.word ∙ ap word_of found)
    ∙ c.is_word-else-is_word.ensures.0 c.if-is_word-2.true in
    let name = c.ascii_text-then-is_word-2.ensures ∙ c.split_at_quote-then-is_word-2.ensures.before
    ∙ ap before_quote rest in
    record {
      word = word;
      names = name;
      scoped = rw name (id_scoped c.args.text.now c.requires word);
      texts = c.ascii_text-then-is_word-2-2.ensures ∙ c.split_at_quote-then-is_word-2-2.ensures.before
          ∙ ap before_quote (c.behind_first-then-is_word-2.ensures
          ∙ ap (drop 1) (c.split_at_quote-then-is_word-2.ensures.from ∙ ap from_quote rest));
    }

pub returns-else-is_word-2 : goal.returns-else-is_word-2
returns-else-is_word-2 c =
    let found = c.behind_pragma.ensures ∙ ap pragma_part c.as_bytes.ensures.value in
    let rest = c.split_word.ensures.rest ∙ ap past_word found in
    let here = c.split_word.ensures.word ∙ ap word_of found in
    let no_prefix : ¬ (pragma_word c.args.text.now ≡ codes "prefix") = λ e. let said = c.is_word.ensures.1 (here ∙ e) in
    let not_said = c.if-is_word.false in cc in
    let no_id : ¬ (pragma_word c.args.text.now ≡ codes "ID") = λ e. let said =
    c.is_word-else-is_word.ensures.1 (here ∙ e) in let not_said = c.if-is_word-2.false in cc in
    let place = c.split_at.ensures.front ∙ ap (λ k. take k c.split_word.result.1.now) c.version_at.ensures.value
    ∙ ap (λ r. take (version_place r) r) rest in
    let back = c.split_at.ensures.back ∙ ap (λ k. drop k c.split_word.result.1.now) c.version_at.ensures.value
    ∙ ap (λ r. drop (version_place r) r) rest in
    let name = c.ascii_text-else-is_word-2.ensures ∙ place in
    record {
      word = version_word c.args.text.now c.requires no_prefix no_id;
      names = name;
      scoped = rw name (version_scoped c.args.text.now c.requires no_prefix no_id);
      numbers = c.ascii_text-else-is_word-2-2.ensures ∙ c.split_at-else-is_word-2.ensures.front
          ∙ ap (λ k. take k c.split_at.result.1.now) c.version_len.ensures.value ∙ ap version_number back;
    }
