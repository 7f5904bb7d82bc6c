-- What is answered to words that clap refuses.
use Rattle.std.proofs.Common.{◌≡◌, ◌≢◌, inl, inr, [], ◌∷◌, All, Result, Ok, Err, IsErr, IsErrAnd, IsOkAnd, MatchResult, IfErr, true, false}
use Rattle.std.proofs.lemmas.List.Elements.{All-head, All-tail}
use Rattle.clap.specs.Words.{HasKind, IsAmong, Kinds, kind_of}
use Rattle.clap.specs.declared.error.Error.{Error}
use Rattle.clap.specs.declared.error.kind.ErrorKind.{ErrorKind}
use Rattle.clap.specs.declared.error.kind.ErrorKind.TheVariants.{DisplayHelp, DisplayVersion, OutOfMemory}
use Rattle.command_words.specs.declared.mistake.Mistake.{Mistake}
use Rattle.command_words.specs.declared.mistake.Mistake.TheVariants.{NoMemory}
use Rattle.command_words.specs.Mistake.{IsOfWords}
use Rattle.command_words.specs.Words.{AreMistakes, IsMistake}

-- words that are refused aren't taken
pub no_mistakes : (kinds : Kinds) → AreMistakes kinds → kinds ≡ [] → ⊥
no_mistakes [] mistakes none = mistakes
no_mistakes (kind ∷ rest) mistakes none = absurd cc

among : (kind : ErrorKind) (kinds : Kinds) → All IsMistake kinds → IsAmong kind kinds → IsMistake kind
among kind [] mistakes is = elim is [ ]
among kind (first ∷ rest) mistakes (inl same) = rw same (All-head IsMistake first rest mistakes)
among kind (first ∷ rest) mistakes (inr later) = among kind rest (All-tail IsMistake first rest mistakes) later

mistake : (kind : ErrorKind) (kinds : Kinds) → AreMistakes kinds → IsAmong kind kinds → IsMistake kind
mistake kind [] mistakes is = elim mistakes [ ]
mistake kind (first ∷ rest) mistakes (inl same) = rw same mistakes.0
mistake kind (first ∷ rest) mistakes (inr later) = among kind rest mistakes.1 later

refused : {T : Type 0} (result : Result T Mistake) → IsErr result → IfErr result IsOfWords → IsErrAnd result IsOfWords
refused (Ok value) is of_words = let bad : false ≡ true = is in absurd cc
refused (Err fault) is of_words = of_words

pub refused_words : {T : Type 0} (kinds : Kinds) (error : Error) → AreMistakes kinds → HasKind kinds error
    → (result : Result T Mistake)
    → (kind_of error ≡ OutOfMemory → result ≡ Err NoMemory)
    → (kind_of error ≢ DisplayHelp → kind_of error ≢ DisplayVersion → IsErr result)
    → IfErr result IsOfWords → IsErrAnd result IsOfWords
refused_words kinds error mistakes (inl memory) result no_memory usage of_words = rw (no_memory memory) tt
refused_words kinds error mistakes (inr is) result no_memory usage of_words =
    let wrong = mistake (kind_of error) kinds mistakes is in
    refused result (usage wrong.0 wrong.1) of_words

pub told_or_refused : {A B : Type 0} (result : Result A B) (P : A → Type 0) (Q : B → Type 0) → IsOkAnd result P
    → MatchResult result P Q
told_or_refused (Ok value) P Q is = is
told_or_refused (Err fault) P Q is = absurd is
