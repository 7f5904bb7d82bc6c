-- What the words of a run ask for, as clap reads them by the rules of the commands.
use Rattle.std.specs.Prelude.{◌≡◌, ◌≢◌, ◌<◌, ◌^◌, ◌⊎◌, ℕ, Bool, true, false, List, [], ◌∷◌, map, Option, Some, None, is_some, codes}
use Rattle.std.specs.Borrow.{Bor}
use Rattle.std.specs.List.{All}
use Rattle.std.specs.Str.Parse.{IsNumeral, digits_value, without_leading_plus}
use Rattle.clap.specs.declared.builder.value_parser.ValueParser.{ValueParser}
use Rattle.clap.specs.declared.builder.value_parser.ValueParser.TheVariants.{Names}
use Rattle.clap.specs.Words.{App, Kinds, Row, Text, fault_of, first_of, one_of, subcommand_of, takes}
use Rattle.clap.specs.declared.error.kind.ErrorKind.{ErrorKind}
use Rattle.clap.specs.declared.error.kind.ErrorKind.TheVariants.{DisplayHelp, DisplayVersion}
use Rattle.type_graph.specs.declared.width.Order.{Order}
use Rattle.type_graph.specs.declared.width.Order.TheVariants.{Big, Little}
use Rattle.command_words.specs.declared.requests.value.Way.{Way}
use Rattle.command_words.specs.declared.requests.value.Way.TheVariants.{Encode, Decode}
use Rattle.command_words.specs.declared.requests.value.Form.{Form}
use Rattle.command_words.specs.declared.requests.value.Form.TheVariants as forms
use Rattle.command_words.specs.Ask.{Answer, Ask, Asked, Call, CallAsk, Check, Compile, Dump, DumpAsk, Description, Explanation, Reference, ReferenceAsk, Show, Upgrade, Value, ValueAsk, asking_command}
use Rattle.command_words.specs.Commands.{program_app}
use Rattle.command_words.specs.Spoken.{spoken}

-- the texts behind references
abbrev pub texts : List (Bor Text) → List Text
texts = map (λ word. word.now)

-- the word for a byte order
abbrev pub word_of : Order → Text
word_of Big = codes "big"
word_of Little = codes "little"

-- the parser of the word for a byte order, which takes these two
pub record TakesOrders (parser : ValueParser) : Type 0 where
  pub names : Bor (List (Bor Text))
  pub is_of_names : parser ≡ Names names
  pub are_orders : texts names.now ≡ codes "big" ∷ codes "little" ∷ []

-- the word that was found for an argument is this number, of so many bits
pub record TellsWhole (id : Text) (bits : ℕ) (rows : List Row) (number : ℕ) : Type 0 where
  pub digits : Text
  pub found : one_of id rows ≡ Some digits
  pub numeral : IsNumeral 10 (without_leading_plus digits)
  pub is : digits_value 10 (without_leading_plus digits) ≡ number
  pub fits : number < 2 ^ bits

-- what clap found for the words of a command tells what is asked for
pub record TellsPlace (rows : List Row) (ask : ValueAsk) : Type 0 where
  pub table : first_of (codes "T") rows ≡ Some ask.table
  pub name : first_of (codes "NAME") rows ≡ Some ask.value.name
  pub order : first_of (codes "ORDER") rows ≡ Some (word_of ask.value.order)
  pub pos : TellsWhole (codes "POS") 64 rows ask.value.pos

-- HEX or `--text TEXT`, not both, for a value to encode; HEX for octets to decode, with the flag `--text` where their
-- value is to be text
abbrev pub TellsInput : Way → Form → List Row → Text → Type 0
TellsInput Encode forms.Hex rows input =
    (first_of (codes "HEX") rows ≡ Some input) × (first_of (codes "text") rows ≡ None)
TellsInput Encode forms.Text rows input =
    (first_of (codes "HEX") rows ≡ None) × (first_of (codes "text") rows ≡ Some input)
TellsInput Decode forms.Hex rows input =
    (first_of (codes "HEX") rows ≡ Some input) × (one_of (codes "text") rows ≡ Some (codes "false"))
TellsInput Decode forms.Text rows input =
    (first_of (codes "HEX") rows ≡ Some input) × (one_of (codes "text") rows ≡ Some (codes "true"))

pub record TellsValue (rows : List Row) (ask : ValueAsk) : Type 0 where
  pub place : TellsPlace rows ask
  pub input : TellsInput ask.value.way ask.form rows ask.value.input

-- a value to encode is named in both forms, or in none
abbrev pub IsUnclear : List Row → Type 0
IsUnclear rows = is_some (first_of (codes "HEX") rows) ≡ is_some (first_of (codes "text") rows)

pub record TellsReference (rows : List Row) (ask : ReferenceAsk) : Type 0 where
  pub table : first_of (codes "T") rows ≡ Some ask.table
  pub host : first_of (codes "host") rows ≡ Some ask.parts.host
  pub port : TellsWhole (codes "port") 16 rows ask.parts.port
  pub object : first_of (codes "object") rows ≡ Some ask.parts.object

abbrev pub TellsRefusal : List Row → Option Text → Type 0
TellsRefusal rows word = first_of (codes "REFUSAL") rows ≡ word

abbrev pub TellsDescription : List Row → Text → Type 0
TellsDescription rows reference = first_of (codes "IOR") rows ≡ Some reference

abbrev pub TellsTable : List Row → Text → Type 0
TellsTable rows table = first_of (codes "T") rows ≡ Some table

-- what is found for a flag that stands there, or doesn't
abbrev pub word_of_flag : Bool → Text
word_of_flag true = codes "true"
word_of_flag false = codes "false"

pub record TellsShow (rows : List Row) (table : Text) (types : Bool) : Type 0 where
  pub table_is : TellsTable rows table
  pub types_is : one_of (codes "types") rows ≡ Some (word_of_flag types)

-- a file to read, found for the argument of this name, and one to write
pub record TellsFiles (id : Text) (rows : List Row) (read written : Text) : Type 0 where
  pub read_is : first_of id rows ≡ Some read
  pub written_is : first_of (codes "o") rows ≡ Some written

abbrev pub TellsUpgrade : List Row → Text → Text → Type 0
TellsUpgrade rows table output = TellsFiles (codes "T") rows table output

abbrev pub TellsCompile : List Row → Text → Text → Type 0
TellsCompile rows source output = TellsFiles (codes "F") rows source output

abbrev pub Tells : List Row → Ask → Type 0
Tells rows (Value ask) = TellsValue rows ask
Tells rows (Reference ask) = TellsReference rows ask
Tells rows (Check table) = TellsTable rows table
Tells rows (Show table types) = TellsShow rows table types
Tells rows (Upgrade table output) = TellsUpgrade rows table output
Tells rows (Compile source output) = TellsCompile rows source output
Tells rows (Explanation word) = TellsRefusal rows word
Tells rows (Description reference) = TellsDescription rows reference

-- the option that was found is this number, of 32 bits; or there is none, and the number is that of none
abbrev pub TellsOption : Text → ℕ → List Row → ℕ → Type 0
TellsOption id of_none rows number = TellsWhole id 32 rows number ⊎ ((one_of id rows ≡ None) × (number ≡ of_none))

abbrev pub TellsOrder : List Row → Order → Type 0
TellsOrder rows order =
    (first_of (codes "order") rows ≡ Some (word_of order)) ⊎ ((first_of (codes "order") rows ≡ None) × (order ≡ Big))

pub record TellsCall (rows : List Row) (ask : CallAsk) : Type 0 where
  pub table : first_of (codes "T") rows ≡ Some ask.table
  pub reference : first_of (codes "IOR") rows ≡ Some ask.reference
  pub operation : first_of (codes "OP") rows ≡ Some ask.operation
  pub value : first_of (codes "VALUE") rows ≡ ask.value
  pub order : TellsOrder rows ask.order
  pub wait : TellsOption (codes "wait") 30 rows ask.wait
  pub repeat : TellsOption (codes "repeat") 1 rows ask.repeat

pub record TellsDump (rows : List Row) (ask : DumpAsk) : Type 0 where
  pub table : first_of (codes "T") rows ≡ Some ask.table
  pub file : first_of (codes "FILE") rows ≡ ask.file
  pub back : first_of (codes "BACK") rows ≡ ask.back
  pub follow : one_of (codes "follow") rows ≡ Some (word_of_flag ask.follow)

abbrev pub TellsAsked : List Row → Asked → Type 0
TellsAsked rows (Answer ask) = Tells rows ask
TellsAsked rows (Call ask) = TellsCall rows ask
TellsAsked rows (Dump ask) = TellsDump rows ask

pub record IsReadAs (app : App) (words : List Text) (asked : Asked) : Type 0 where
  pub taken : takes app words ≡ true
  pub rows : List Row
  pub command : subcommand_of app words ≡ Some (asking_command asked, rows)
  pub tells : TellsAsked rows asked

-- clap takes the words, and they ask for this
abbrev pub AreReadAs : List Text → Asked → Type 0
AreReadAs words asked = (orders : ValueParser) → TakesOrders orders → IsReadAs (program_app orders) words asked

-- it takes the words of a run as they are spoken
abbrev pub AsksFor : List Text → Asked → Type 0
AsksFor words asked = AreReadAs (spoken words) asked

-- the flag `--explain` is there, or isn't
abbrev pub TellsExplain : List Row → Bool → Type 0
TellsExplain rows flag = (one_of (codes "explain") rows ≡ Some (word_of_flag flag))
    ⊎ ((one_of (codes "explain") rows ≡ None) × (flag ≡ false))

pub record HasExplain (app : App) (words : List Text) (flag : Bool) : Type 0 where
  pub taken : takes app words ≡ true
  pub name : Text
  pub rows : List Row
  pub command : subcommand_of app words ≡ Some (name, rows)
  pub tells : TellsExplain rows flag

-- clap takes the words, with the flag or without it
abbrev pub HaveExplain : List Text → Bool → Type 0
HaveExplain words flag = (orders : ValueParser) → TakesOrders orders → HasExplain (program_app orders) words flag

-- so the words of a run as they are spoken
abbrev pub AskToExplain : List Text → Bool → Type 0
AskToExplain words flag = HaveExplain (spoken words) flag

-- a kind of error that tells of wrong words
abbrev pub IsMistake : ErrorKind → Type 0
IsMistake kind = (kind ≢ DisplayHelp) × (kind ≢ DisplayVersion)

abbrev pub AreMistakes : Kinds → Type 0
AreMistakes [] = ⊥
AreMistakes (kind ∷ rest) = IsMistake kind × All IsMistake rest

-- clap takes the words, which name no one value to encode
pub record AreUnclear (app : App) (words : List Text) : Type 0 where
  pub taken : takes app words ≡ true
  pub rows : List Row
  pub command : subcommand_of app words ≡ Some (codes "encode", rows)
  pub unclear : IsUnclear rows

-- clap refuses the words, and not because they ask for help, or they name no one value to encode
abbrev pub AreRefused : List Text → Type 0
AreRefused words = (orders : ValueParser) → TakesOrders orders
    → AreMistakes (fault_of (program_app orders) words) ⊎ AreUnclear (program_app orders) words

-- so the words of a run as they are spoken
abbrev pub IsMistaken : List Text → Type 0
IsMistaken words = AreRefused (spoken words)
