use Rattle.std.proofs.Common.{◌≡◌, ◌++◌, ◌∷◌, ◌∙◌, ℕ, List, Bor, ap, ap₂, codes, drop, sym, take, Option, Some, None, IfSome, IfNone}
use Rattle.std.proofs.lemmas.List.{drop-map, take-append-drop, take-map, take_rest}
use Rattle.clap.specs.Words.{Text}
use Rattle.command_words.specs.declared.spoken.Pieces.{Pieces}
use Rattle.command_words.specs.Spoken.{glued, joined}
use Rattle.command_words.specs.Words.{texts}
use Rattle.command_words.proofs.Glued.{end_there, here, other_there, text_there}
use Rattle.command_words.proofs.spoken.text_pieces.Goals as goal

-- what the pieces of the words from a place on are
pieces_there : (words from : List (Bor Text)) (place : ℕ) (result : Option Pieces) → from ≡ drop place words
    → glued (texts words) ≡ take place (texts words) ++ joined (drop place (texts words))
    → IfSome result (λ pieces. pieces.front.now ≡ take place words)
    → IfSome result (λ pieces. joined (texts from) ≡ (pieces.word.now ++ codes "=" ++ pieces.value.now)
    ∷ texts pieces.behind.now)
    → IfSome result (λ pieces. glued (texts words) ≡ texts pieces.front.now
    ++ ((pieces.word.now ++ codes "=" ++ pieces.value.now) ∷ texts pieces.behind.now))
pieces_there words from place None cut is front some = tt
pieces_there words from place (Some pieces) cut is front some =
    let behind = drop-map (λ word. word.now) place words ∙ ap texts (sym cut) in
    is ∙ ap₂ (λ (a b : List Text). a ++ b) (take-map (λ word. word.now) place words ∙ ap texts (sym front))
    (ap joined behind ∙ some)

none_there : (words from : List (Bor Text)) (place : ℕ) (result : Option Pieces) → from ≡ drop place words
    → glued (texts words) ≡ take place (texts words) ++ joined (drop place (texts words))
    → IfNone result (joined (texts from) ≡ texts from) → IfNone result (glued (texts words) ≡ texts words)
none_there words from place None cut is none =
    let same = drop-map (λ word. word.now) place words ∙ ap texts (sym cut) in
    is ∙ ap (λ l. take place (texts words) ++ l) (ap joined same ∙ none ∙ sym same)
    ∙ take-append-drop place (texts words)
none_there words from place (Some pieces) cut is none = tt

pub returns-then-eq-clause-some : goal.returns-then-eq-clause-some
returns-then-eq-clause-some c =
    let words = c.args.words.now in
    let place = c.loop-place.place in
    let is = text_there (texts words) place _ _ (here words place _ c.loop-place-test.true) c.loop-place.invariant
    (sym c.eq.ensures ∙ c.if-eq.true) in
    pieces_there words _ place c.pieces_of.result (take_rest words place) is c.pieces_of.ensures.front
    c.pieces_of.ensures.some

pub returns-then-eq-clause-none : goal.returns-then-eq-clause-none
returns-then-eq-clause-none c =
    let words = c.args.words.now in
    let place = c.loop-place.place in
    let is = text_there (texts words) place _ _ (here words place _ c.loop-place-test.true) c.loop-place.invariant
    (sym c.eq.ensures ∙ c.if-eq.true) in
    none_there words _ place c.pieces_of.result (take_rest words place) is c.pieces_of.ensures.none

pub returns-then-eq-2-clause-none : goal.returns-then-eq-2-clause-none
returns-then-eq-2-clause-none c =
    end_there (texts c.args.words.now) c.loop-place.place _ _
    (here c.args.words.now c.loop-place.place _ c.loop-place-test.true) c.loop-place.invariant
    (sym c.eq.ensures ∙ c.if-eq.false) (sym c.eq-in-loop-place.ensures ∙ c.if-eq-2.true)

pub loop-place-preserved : goal.loop-place-preserved
loop-place-preserved c =
    other_there (texts c.args.words.now) c.loop-place.place _ _
    (here c.args.words.now c.loop-place.place _ c.loop-place-test.true) c.loop-place.invariant
    (sym c.eq.ensures ∙ c.if-eq.false) (sym c.eq-in-loop-place.ensures ∙ c.if-eq-2.false)
