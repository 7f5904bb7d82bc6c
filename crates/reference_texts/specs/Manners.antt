-- What is told of an encapsulation beside its value.
use Rattle.reference_texts.specs.Encapsulations.{Manner}
use Rattle.reference_texts.specs.declared.manner.Manner.{Manner as Told}

abbrev pub manner_of : Told → Manner
manner_of told = record { order = told.order; gaps = told.gaps.items; behind = told.behind.items }
