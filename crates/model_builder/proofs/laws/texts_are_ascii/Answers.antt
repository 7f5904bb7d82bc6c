use Rattle.std.proofs.Common.{subst, sym}
use Rattle.model_builder.specs.Ascii.{HasAsciiTexts}
use Rattle.model_builder.proofs.AsciiModel.{model_ascii}
use Rattle.model_builder.proofs.AsciiNames.{says_ascii}
use Rattle.model_builder.proofs.EntryWords.{entries_proper}
use Rattle.model_builder.proofs.laws.texts_are_ascii.Goals as goal

pub returns : goal.returns
returns c = λ spec names model own s.
    subst HasAsciiTexts (sym s.shows.parts)
    (model_ascii names (entries_proper spec names own) (says_ascii spec.definitions.items names own) s.lowered)
