use Rattle.std.proofs.Common.{◌≡◌, ◌∙◌, ℕ, ◌<◌, false, ◌==◌, List, ◌∷◌, length, take, ap, sym, arith}
use Rattle.std.specs.Str.{IsAscii}
use Rattle.std.proofs.lemmas.Bool.{eqb-true}
use Rattle.std.proofs.lemmas.Bool.Decides.{nat_tests}
use Rattle.idl_lexer.specs.Octets.{is_word, run}
use Rattle.idl_lexer.specs.Identifiers.{words}
use Rattle.idl_lexer.proofs.WordsOfNames.{word-IsAscii, words-end, words-step}
use Rattle.idl_lexer.proofs.identifiers.IdentifiersIterator.next.Goals as goal

some : (n : ℕ) → (n == 0) ≡ false → 0 < n
some n h = grind (arith, nat_tests)

cut_ascii : (from word : List ℕ) (n : ℕ) → word ≡ take n from → n ≡ run is_word from → IsAscii word
cut_ascii from word n cut counted i = rw (cut, counted) (word-IsAscii from i)

pub ascii_text-requires : goal.ascii_text-requires
ascii_text-requires c = cut_ascii c.past_others-from.result.now _ _ c.split_at.ensures.front c.word_len.ensures.value

pub returns-then-is_empty-clause-steps : goal.returns-then-is_empty-clause-steps
returns-then-is_empty-clause-steps c =
    words-end c.args.self.now.rest.now _ _ _ _ c.past_others-from.ensures c.word_len.ensures.value
    c.split_at.ensures.front c.split_at.ensures.back
    (eqb-true _ 0 (sym c.is_empty.ensures ∙ c.if-is_empty.true))

pub returns-else-is_empty-clause-steps : goal.returns-else-is_empty-clause-steps
returns-else-is_empty-clause-steps c =
    words-step c.args.self.now.rest.now _ _ _ _ c.past_others-from.ensures c.word_len.ensures.value
    c.split_at.ensures.front c.split_at.ensures.back
    (some _ (sym c.is_empty.ensures ∙ c.if-is_empty.false))
    ∙ ap (λ w. w ∷ words c.split_at.result.1.now) (sym c.ascii_text.ensures)

pub returns-else-is_empty-clause-goes : goal.returns-else-is_empty-clause-goes
returns-else-is_empty-clause-goes c =
    let step = words-step c.args.self.now.rest.now _ _ _ _ c.past_others-from.ensures c.word_len.ensures.value
    c.split_at.ensures.front c.split_at.ensures.back
    (some _ (sym c.is_empty.ensures ∙ c.if-is_empty.false)) in
    record { on = λ finite. (tt, tt, omega (arith, ap length step)); keeps = tt; rests = λ finite. tt }
