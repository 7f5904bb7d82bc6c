use Rattle.std.proofs.Common.{◌∙◌, sym, ap}
use Rattle.model_builder.specs.Shown.{model_of}
use Rattle.model_builder.proofs.Lowered.{lowered_once}
use Rattle.model_builder.proofs.laws.model_is_one.Goals as goal

pub returns : goal.returns
returns c = λ definitions names one other a b.
    a.shows.parts ∙ ap (model_of names) (lowered_once a.told b.told) ∙ sym b.shows.parts
