use Rattle.reference_texts.proofs.ProfileLaws.{key_alone, key_told, profile_once}
use Rattle.reference_texts.proofs.laws.written_profile_has_its_key.Goals as goal

pub returns-clause-told : goal.returns-clause-told
returns-clause-told c = λ host port key octets is. key_told host port key octets is

pub returns-clause-alone : goal.returns-clause-alone
returns-clause-alone c = λ host port key other octets is told. key_alone host port key other octets is told

pub returns-clause-once : goal.returns-clause-once
returns-clause-once c = λ host port key a b one other. profile_once host port key a b one other
