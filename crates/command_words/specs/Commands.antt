-- The rules by which clap reads the words of the commands.
use Rattle.std.specs.Prelude.{true, pos, Option, Some, None, codes}
use Rattle.clap.specs.declared.builder.value_parser.ValueParser.{ValueParser}
use Rattle.clap.specs.declared.builder.value_parser.ValueParser.TheVariants.{Signed, Unsigned}
use Rattle.clap.specs.declared.builder.action.ArgAction.TheVariants.{SetTrue}
use Rattle.clap.specs.Words.{App, Rule, Text, new_app, new_rule, with_rule, with_subcommand}

-- a word that has to be there, of the form that the parser takes
abbrev pub wanted : Text → Option ValueParser → Rule
wanted id parser = record (new_rule id) { parser = parser; required = true }

-- the flag `--explain`
abbrev pub explain_rule : Rule
explain_rule = record (new_rule (codes "explain")) { long = Some (codes "explain"); action = Some SetTrue }

-- the words of a command for the type, the byte order and the position of a value
abbrev pub place_app : ValueParser → Text → App
place_app orders name = with_rule
    (with_rule
    (with_rule (with_rule (with_rule (new_app name) (wanted (codes "T") None)) (wanted (codes "NAME") None))
    (wanted (codes "ORDER") (Some orders)))
    (wanted (codes "POS") (Some (Unsigned 0 18446744073709551615))))
    explain_rule

-- the option `--text`, by which a value is text
abbrev pub text_rule : Rule
text_rule = record (new_rule (codes "text")) { long = Some (codes "text"); value_names = 1 }

-- the flag `--text`, by which text is printed
abbrev pub text_flag : Rule
text_flag = record (new_rule (codes "text")) { long = Some (codes "text"); action = Some SetTrue }

abbrev pub encode_app : ValueParser → App
encode_app orders = with_rule (with_rule (place_app orders (codes "encode")) (new_rule (codes "HEX"))) text_rule

abbrev pub decode_app : ValueParser → App
decode_app orders = with_rule (with_rule (place_app orders (codes "decode")) (wanted (codes "HEX") None)) text_flag

-- the words of a command that asks of a table alone
abbrev pub table_app : Text → App
table_app name = with_rule (with_rule (new_app name) (wanted (codes "T") None)) explain_rule

-- the option `-o`, which has to be there
abbrev pub output : Rule
output = record (new_rule (codes "o")) { short = Some 111; value_names = 1; required = true }

-- the flag `--types`
abbrev pub types_rule : Rule
types_rule = record (new_rule (codes "types")) { long = Some (codes "types"); action = Some SetTrue }

abbrev pub show_app : App
show_app = with_rule (table_app (codes "show")) types_rule

abbrev pub upgrade_app : App
upgrade_app = with_rule (table_app (codes "upgrade")) output

abbrev pub compile_app : App
compile_app =
    with_rule (with_rule (with_rule (new_app (codes "compile")) (wanted (codes "F") None)) output) explain_rule

-- the command that makes tables; a run has to name a command, or to ask for the version
abbrev pub first_app : App
first_app =
    let none = new_app (codes "idlc") in
    let top = record none.top { subcommand_required = true; has_version = true } in
    with_subcommand (record none { top = top }) compile_app.top

-- this and the commands that marshal a value
abbrev pub value_app : ValueParser → App
value_app orders = with_subcommand (with_subcommand first_app (encode_app orders).top) (decode_app orders).top

-- these and the commands that ask of a table alone
abbrev pub tables_app : ValueParser → App
tables_app orders =
    with_subcommand
    (with_subcommand (with_subcommand (value_app orders) (table_app (codes "check")).top)
    show_app.top) upgrade_app.top

-- an option that has to be there, of the form that the parser takes
abbrev pub option_rule : Text → Option ValueParser → Rule
option_rule name parser = record (new_rule name) { long = Some name; value_names = 1; parser = parser; required = true }

abbrev pub port_rule : Rule
port_rule = option_rule (codes "port") (Some (Signed (pos 0) (pos 65535)))

abbrev pub object_rule : Rule
object_rule = option_rule (codes "object") None

-- the words of the command for references
abbrev pub reference_app : App
reference_app = with_rule
    (with_rule (with_rule (table_app (codes "ior")) (option_rule (codes "host") None)) port_rule)
    object_rule

-- how many connections are served at the same time, which may be left out
abbrev pub at_once_rule : Rule
at_once_rule = record (new_rule (codes "at-once")) {
  long = Some (codes "at-once");
  value_names = 1;
  parser = Some (Signed (pos 1) (pos 64));
}

-- after how many seconds a connection ends that is silent or slow, which may be left out
abbrev pub idle_rule : Rule
idle_rule = record (new_rule (codes "idle")) {
  long = Some (codes "idle");
  value_names = 1;
  parser = Some (Signed (pos 0) (pos 86400));
}

-- the words of the command that serves calls
abbrev pub serve_app : App
serve_app = with_rule
    (with_rule
    (with_rule
    (with_rule (with_rule (table_app (codes "serve")) port_rule) object_rule)
    (option_rule (codes "connections") (Some (Signed (pos 0) (pos 4294967295)))))
    at_once_rule)
    idle_rule

-- the command that says what refusals mean
abbrev pub explain_app : App
explain_app = with_rule (new_app (codes "explain")) (new_rule (codes "REFUSAL"))

-- all commands of tables and of their objects
abbrev pub served_app : ValueParser → App
served_app orders = with_subcommand (with_subcommand (tables_app orders) reference_app.top) serve_app.top

-- the command that says what a reference says
abbrev pub describe_app : App
describe_app = with_rule (with_rule (new_app (codes "reference")) (wanted (codes "IOR") None)) explain_rule

-- the byte order of a request, which may be left out
abbrev pub order_rule : ValueParser → Rule
order_rule orders =
    record (new_rule (codes "order")) { long = Some (codes "order"); value_names = 1; parser = Some orders }

-- how many seconds a call may take, which may be left out
abbrev pub wait_rule : Rule
wait_rule = record (new_rule (codes "wait")) {
  long = Some (codes "wait");
  value_names = 1;
  parser = Some (Signed (pos 1) (pos 86400));
}

-- how often it is called, which may be left out
abbrev pub repeat_rule : Rule
repeat_rule = record (new_rule (codes "repeat")) {
  long = Some (codes "repeat");
  value_names = 1;
  parser = Some (Signed (pos 1) (pos 4294967295));
}

-- the words of the command that calls an object
abbrev pub called_app : App
called_app = with_rule
    (with_rule
    (with_rule (table_app (codes "call")) (wanted (codes "IOR") None))
    (wanted (codes "OP") None))
    (new_rule (codes "VALUE"))

-- these, and its options
abbrev pub call_app : ValueParser → App
call_app orders = with_rule (with_rule (with_rule called_app (order_rule orders)) wait_rule) repeat_rule

-- the flag `--follow`
abbrev pub follow_rule : Rule
follow_rule = record (new_rule (codes "follow")) { long = Some (codes "follow"); action = Some SetTrue }

-- the command that tells what a capture says, of one file or two
abbrev pub dump_app : App
dump_app = with_rule
    (with_rule (with_rule (table_app (codes "dump")) (new_rule (codes "FILE"))) (new_rule (codes "BACK")))
    follow_rule

-- all commands of objects and their references
abbrev pub objects_app : ValueParser → App
objects_app orders = with_subcommand
    (with_subcommand (with_subcommand (served_app orders) explain_app.top) describe_app.top)
    (call_app orders).top

-- the commands, of which a run has to name one
abbrev pub program_app : ValueParser → App
program_app orders = with_subcommand (objects_app orders) dump_app.top
