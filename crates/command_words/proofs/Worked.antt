-- What a few lines of words ask for.
use Rattle.std.proofs.Common.{inl, inr, ◌≡◌, ◌&&◌, refl, ap, true, false, pos, List, [], ◌∷◌, Some, None, codes, arith, Bor}
use Rattle.std.specs.List.{list_any}
use Rattle.std.specs.Str.{bytes_eq}
use Rattle.clap.specs.Words.{Row, Text, reading_of, subcommand_of, takes}
use Rattle.clap.specs.declared.builder.value_parser.ValueParser.{ValueParser}
use Rattle.clap.specs.declared.builder.value_parser.ValueParser.TheVariants.{Bool as AsBool, Names, Signed, String}
use Rattle.clap.specs.declared.parser.matches.ValueSource.TheVariants.{CommandLine, DefaultValue}
use Rattle.clap.proofs.OnLiterals.{clap_on_literals}
use Rattle.type_graph.specs.declared.width.Order.TheVariants.{Big}
use Rattle.command_words.specs.declared.requests.value.Way.TheVariants.{Encode}
use Rattle.command_words.specs.Ask.{Answer, Ask, Call, CallAsk, Compile, Dump, DumpAsk, Explanation, Reference, Value}
use Rattle.command_words.specs.declared.requests.value.Form.TheVariants.{Hex, Text as AsText}
use Rattle.command_words.specs.Commands.{program_app}
use Rattle.command_words.specs.Spoken.{spoken}
use Rattle.command_words.specs.Words.{AsksFor, IsReadAs, Tells, TellsCall, TellsDump, texts}

abbrev words : List Text
words = codes "idlc" ∷ codes "encode" ∷ codes "builtin" ∷ codes "S" ∷ codes "big" ∷ codes "12" ∷ codes "07" ∷ []

abbrev ask : Ask
ask = Value (record {
  table = codes "builtin";
  form = Hex;
  value = record { way = Encode; name = codes "S"; order = Big; pos = 12; input = codes "07" };
})

-- what clap keeps of a word
abbrev row_by : ValueParser → Text → Text → Row
row_by parser id word = record {
  id = id;
  values = word ∷ [];
  count = None;
  source = Some CommandLine;
  reading = reading_of parser;
}

abbrev row : Text → Text → Row
row id word = row_by String id word

-- the flag `--explain` isn't there
abbrev unasked : Row
unasked = record (row_by AsBool (codes "explain") (codes "false")) { source = Some DefaultValue }

abbrev found : List Row
found = row (codes "T") (codes "builtin") ∷ row (codes "NAME") (codes "S") ∷ row (codes "ORDER") (codes "big")
    ∷ row (codes "POS") (codes "12")
    ∷ row (codes "HEX") (codes "07") ∷ unasked ∷ []

module _ (orders : Bor (List (Bor Text))) (are : texts orders.now ≡ codes "big" ∷ codes "little" ∷ []) where
  any_big : (names : List (Bor Text)) → texts names ≡ codes "big" ∷ codes "little" ∷ []
      → list_any (λ name. bytes_eq name.now (codes "big")) names ≡ true
  any_big [] names_are = absurd cc
  any_big (first ∷ rest) names_are =
      let first_is : first.now ≡ codes "big" = cc in rw first_is refl

  are_taken : takes (program_app (Names orders)) words ≡ true
  unfolding clap_on_literals
  are_taken = ap (λ b. b && true && true && true && true) (any_big orders.now are)

  is_encode : subcommand_of (program_app (Names orders)) words ≡ Some (codes "encode", found)
  unfolding clap_on_literals
  is_encode = refl

  tells : Tells found ask
  unfolding clap_on_literals
  tells = record {
    place = record {
      table = refl;
      name = refl;
      order = refl;
      pos = record {
        digits = codes "12";
        found = refl;
        numeral = (omega arith, (omega arith, (omega arith, tt)));
        is = refl;
        fits = omega arith;
      };
    };
    input = (refl, refl);
  }

  pub is_read : IsReadAs (program_app (Names orders)) words (Answer ask)
  is_read = record {
    taken = are_taken;
    rows = found;
    command = is_encode;
    tells = tells;
  }

-- so a clause that speaks of what words ask for speaks of these
pub words_ask : AsksFor words (Answer ask)
words_ask orders takes_orders = rw takes_orders.is_of_names (is_read takes_orders.names takes_orders.are_orders)

-- a text that begins with a minus
abbrev dashed_words : List Text
dashed_words = codes "idlc" ∷ codes "encode" ∷ codes "t.idl" ∷ codes "T" ∷ codes "big" ∷ codes "12" ∷ codes "--text"
    ∷ codes "-5" ∷ []

abbrev dashed_ask : Ask
dashed_ask = Value (record {
  table = codes "t.idl";
  form = AsText;
  value = record { way = Encode; name = codes "T"; order = Big; pos = 12; input = codes "-5" };
})

abbrev dashed_found : List Row
dashed_found = row (codes "T") (codes "t.idl") ∷ row (codes "NAME") (codes "T") ∷ row (codes "ORDER") (codes "big")
    ∷ row (codes "POS") (codes "12")
    ∷ row (codes "text") (codes "-5") ∷ unasked ∷ []

module _ (orders : Bor (List (Bor Text))) (are : texts orders.now ≡ codes "big" ∷ codes "little" ∷ []) where
  dashed_taken : takes (program_app (Names orders)) (spoken dashed_words) ≡ true
  unfolding clap_on_literals
  dashed_taken = ap (λ b. b && true && true && true && true) (any_big orders are orders.now are)

  is_dashed_encode : subcommand_of (program_app (Names orders)) (spoken dashed_words)
      ≡ Some (codes "encode", dashed_found)
  unfolding clap_on_literals
  is_dashed_encode = refl

  dashed_tells : Tells dashed_found dashed_ask
  unfolding clap_on_literals
  dashed_tells = record {
    place = record {
      table = refl;
      name = refl;
      order = refl;
      pos = record {
        digits = codes "12";
        found = refl;
        numeral = (omega arith, (omega arith, (omega arith, tt)));
        is = refl;
        fits = omega arith;
      };
    };
    input = (refl, refl);
  }

  pub dashed_read : IsReadAs (program_app (Names orders)) (spoken dashed_words) (Answer dashed_ask)
  dashed_read = record {
    taken = dashed_taken;
    rows = dashed_found;
    command = is_dashed_encode;
    tells = dashed_tells;
  }

pub dashed_words_ask : AsksFor dashed_words (Answer dashed_ask)
dashed_words_ask orders takes_orders =
    rw takes_orders.is_of_names (dashed_read takes_orders.names takes_orders.are_orders)

abbrev reference_words : List Text
reference_words = codes "idlc" ∷ codes "ior" ∷ codes "builtin" ∷ codes "--host" ∷ codes "h" ∷ codes "--port"
    ∷ codes "99" ∷ codes "--object"
    ∷ codes "K=P" ∷ []

abbrev reference_ask : Ask
reference_ask = Reference (record {
  table = codes "builtin";
  parts = record { host = codes "h"; port = 99; object = codes "K=P" };
})

abbrev reference_found : List Row
reference_found = row (codes "T") (codes "builtin") ∷ row (codes "host") (codes "h")
    ∷ row_by (Signed (pos 0) (pos 65535)) (codes "port") (codes "99")
    ∷ row (codes "object") (codes "K=P") ∷ unasked ∷ []

abbrev explain_words : List Text
explain_words = codes "idlc" ∷ codes "explain" ∷ codes "Limit" ∷ []

abbrev explain_found : List Row
explain_found = row (codes "REFUSAL") (codes "Limit") ∷ []

abbrev list_words : List Text
list_words = codes "idlc" ∷ codes "explain" ∷ []

module _ (orders : Bor (List (Bor Text))) where
  reference_taken : takes (program_app (Names orders)) reference_words ≡ true
  unfolding clap_on_literals
  reference_taken = refl

  is_reference : subcommand_of (program_app (Names orders)) reference_words ≡ Some (codes "ior", reference_found)
  unfolding clap_on_literals
  is_reference = refl

  reference_tells : Tells reference_found reference_ask
  unfolding clap_on_literals
  reference_tells = record {
    table = refl;
    host = refl;
    port = record {
      digits = codes "99";
      found = refl;
      numeral = (omega arith, (omega arith, (omega arith, tt)));
      is = refl;
      fits = omega arith;
    };
    object = refl;
  }

  explain_taken : takes (program_app (Names orders)) explain_words ≡ true
  unfolding clap_on_literals
  explain_taken = refl

  is_explain : subcommand_of (program_app (Names orders)) explain_words ≡ Some (codes "explain", explain_found)
  unfolding clap_on_literals
  is_explain = refl

  explain_tells : Tells explain_found (Explanation (Some (codes "Limit")))
  unfolding clap_on_literals
  explain_tells = refl

  list_taken : takes (program_app (Names orders)) list_words ≡ true
  unfolding clap_on_literals
  list_taken = refl

  is_list : subcommand_of (program_app (Names orders)) list_words ≡ Some (codes "explain", [])
  unfolding clap_on_literals
  is_list = refl

  list_tells : Tells [] (Explanation None)
  unfolding clap_on_literals
  list_tells = refl

  pub reference_read : IsReadAs (program_app (Names orders)) reference_words (Answer reference_ask)
  reference_read = record {
    taken = reference_taken;
    rows = reference_found;
    command = is_reference;
    tells = reference_tells;
  }

  pub explain_read : IsReadAs (program_app (Names orders)) explain_words (Answer (Explanation (Some (codes "Limit"))))
  explain_read = record {
    taken = explain_taken;
    rows = explain_found;
    command = is_explain;
    tells = explain_tells;
  }

  pub list_read : IsReadAs (program_app (Names orders)) list_words (Answer (Explanation None))
  list_read = record {
    taken = list_taken;
    rows = [];
    command = is_list;
    tells = list_tells;
  }

pub reference_words_ask : AsksFor reference_words (Answer reference_ask)
reference_words_ask orders takes_orders = rw takes_orders.is_of_names (reference_read takes_orders.names)

pub explain_words_ask : AsksFor explain_words (Answer (Explanation (Some (codes "Limit"))))
explain_words_ask orders takes_orders = rw takes_orders.is_of_names (explain_read takes_orders.names)

pub list_words_ask : AsksFor list_words (Answer (Explanation None))
list_words_ask orders takes_orders = rw takes_orders.is_of_names (list_read takes_orders.names)

-- a file to compile
abbrev compile_words : List Text
compile_words = codes "idlc" ∷ codes "compile" ∷ codes "a.idl" ∷ codes "-o" ∷ codes "a.table" ∷ []

abbrev compile_found : List Row
compile_found = row (codes "F") (codes "a.idl") ∷ row (codes "o") (codes "a.table") ∷ unasked ∷ []

abbrev compile_ask : Ask
compile_ask = Compile (codes "a.idl") (codes "a.table")

module _ (orders : Bor (List (Bor Text))) where
  compile_taken : takes (program_app (Names orders)) compile_words ≡ true
  unfolding clap_on_literals
  compile_taken = refl

  is_compile : subcommand_of (program_app (Names orders)) compile_words ≡ Some (codes "compile", compile_found)
  unfolding clap_on_literals
  is_compile = refl

  compile_tells : Tells compile_found compile_ask
  unfolding clap_on_literals
  compile_tells = record { read_is = refl; written_is = refl }

  pub compile_read : IsReadAs (program_app (Names orders)) compile_words (Answer compile_ask)
  compile_read = record {
    taken = compile_taken;
    rows = compile_found;
    command = is_compile;
    tells = compile_tells;
  }

pub compile_words_ask : AsksFor compile_words (Answer compile_ask)
compile_words_ask orders takes_orders = rw takes_orders.is_of_names (compile_read takes_orders.names)

-- a call without options
abbrev call_words : List Text
call_words = codes "idlc" ∷ codes "call" ∷ codes "t" ∷ codes "@r" ∷ codes "ping" ∷ []

abbrev call_ask : CallAsk
call_ask = record {
  table = codes "t";
  reference = codes "@r";
  operation = codes "ping";
  value = None;
  order = Big;
  wait = 30;
  repeat = 1;
}

abbrev call_found : List Row
call_found = row (codes "T") (codes "t") ∷ row (codes "IOR") (codes "@r") ∷ row (codes "OP") (codes "ping") ∷ unasked
    ∷ []

-- one with a value, three seconds, five times
abbrev long_call_words : List Text
long_call_words = codes "idlc" ∷ codes "call" ∷ codes "t" ∷ codes "-" ∷ codes "add" ∷ codes "[1]" ∷ codes "--wait"
    ∷ codes "3" ∷ codes "--repeat"
    ∷ codes "5" ∷ []

abbrev long_call_ask : CallAsk
long_call_ask = record {
  table = codes "t";
  reference = codes "-";
  operation = codes "add";
  value = Some (codes "[1]");
  order = Big;
  wait = 3;
  repeat = 5;
}

abbrev long_call_found : List Row
long_call_found = row (codes "T") (codes "t") ∷ row (codes "IOR") (codes "-") ∷ row (codes "OP") (codes "add")
    ∷ row (codes "VALUE") (codes "[1]")
    ∷ row_by (Signed (pos 1) (pos 86400)) (codes "wait") (codes "3")
    ∷ row_by (Signed (pos 1) (pos 4294967295)) (codes "repeat") (codes "5")
    ∷ unasked ∷ []

module _ (orders : Bor (List (Bor Text))) where
  call_taken : takes (program_app (Names orders)) call_words ≡ true
  unfolding clap_on_literals
  call_taken = refl

  is_call : subcommand_of (program_app (Names orders)) call_words ≡ Some (codes "call", call_found)
  unfolding clap_on_literals
  is_call = refl

  call_tells : TellsCall call_found call_ask
  unfolding clap_on_literals
  call_tells = record {
    table = refl;
    reference = refl;
    operation = refl;
    value = refl;
    order = inr (refl, refl);
    wait = inr (refl, refl);
    repeat = inr (refl, refl);
  }

  long_call_taken : takes (program_app (Names orders)) long_call_words ≡ true
  unfolding clap_on_literals
  long_call_taken = refl

  is_long_call : subcommand_of (program_app (Names orders)) long_call_words ≡ Some (codes "call", long_call_found)
  unfolding clap_on_literals
  is_long_call = refl

  long_call_tells : TellsCall long_call_found long_call_ask
  unfolding clap_on_literals
  long_call_tells = record {
    table = refl;
    reference = refl;
    operation = refl;
    value = refl;
    order = inr (refl, refl);
    wait = inl (record {
      digits = codes "3";
      found = refl;
      numeral = (omega arith, (omega arith, tt));
      is = refl;
      fits = omega arith;
    });
    repeat = inl (record {
      digits = codes "5";
      found = refl;
      numeral = (omega arith, (omega arith, tt));
      is = refl;
      fits = omega arith;
    });
  }

  pub call_read : IsReadAs (program_app (Names orders)) call_words (Call call_ask)
  call_read = record {
    taken = call_taken;
    rows = call_found;
    command = is_call;
    tells = call_tells;
  }

  pub long_call_read : IsReadAs (program_app (Names orders)) long_call_words (Call long_call_ask)
  long_call_read = record {
    taken = long_call_taken;
    rows = long_call_found;
    command = is_long_call;
    tells = long_call_tells;
  }

pub call_words_ask : AsksFor call_words (Call call_ask)
call_words_ask orders takes_orders = rw takes_orders.is_of_names (call_read takes_orders.names)

pub long_call_words_ask : AsksFor long_call_words (Call long_call_ask)
long_call_words_ask orders takes_orders = rw takes_orders.is_of_names (long_call_read takes_orders.names)

-- a capture of standard input
abbrev dump_words : List Text
dump_words = codes "idlc" ∷ codes "dump" ∷ codes "t" ∷ []

abbrev dump_ask : DumpAsk
dump_ask = record { table = codes "t"; file = None; back = None; follow = false }

abbrev dump_found : List Row
dump_found = row (codes "T") (codes "t") ∷ unasked ∷ record (row_by AsBool (codes "follow") (codes "false"))
    { source = Some DefaultValue } ∷ []

-- one in two files that go on
abbrev two_files_words : List Text
two_files_words = codes "idlc" ∷ codes "dump" ∷ codes "t" ∷ codes "there" ∷ codes "back" ∷ codes "--follow" ∷ []

abbrev two_files_ask : DumpAsk
two_files_ask = record { table = codes "t"; file = Some (codes "there"); back = Some (codes "back"); follow = true }

abbrev two_files_found : List Row
two_files_found = row (codes "T") (codes "t") ∷ row (codes "FILE") (codes "there") ∷ row (codes "BACK") (codes "back")
    ∷ row_by AsBool (codes "follow") (codes "true") ∷ unasked ∷ []

module _ (orders : Bor (List (Bor Text))) where
  dump_taken : takes (program_app (Names orders)) dump_words ≡ true
  unfolding clap_on_literals
  dump_taken = refl

  is_dump : subcommand_of (program_app (Names orders)) dump_words ≡ Some (codes "dump", dump_found)
  unfolding clap_on_literals
  is_dump = refl

  dump_tells : TellsDump dump_found dump_ask
  unfolding clap_on_literals
  dump_tells = record { table = refl; file = refl; back = refl; follow = refl }

  two_files_taken : takes (program_app (Names orders)) two_files_words ≡ true
  unfolding clap_on_literals
  two_files_taken = refl

  is_two_files : subcommand_of (program_app (Names orders)) two_files_words ≡ Some (codes "dump", two_files_found)
  unfolding clap_on_literals
  is_two_files = refl

  two_files_tells : TellsDump two_files_found two_files_ask
  unfolding clap_on_literals
  two_files_tells = record { table = refl; file = refl; back = refl; follow = refl }

  pub dump_read : IsReadAs (program_app (Names orders)) dump_words (Dump dump_ask)
  dump_read = record { taken = dump_taken; rows = dump_found; command = is_dump; tells = dump_tells }

  pub two_files_read : IsReadAs (program_app (Names orders)) two_files_words (Dump two_files_ask)
  two_files_read = record {
    taken = two_files_taken;
    rows = two_files_found;
    command = is_two_files;
    tells =
        two_files_tells;
  }

pub dump_words_ask : AsksFor dump_words (Dump dump_ask)
dump_words_ask orders takes_orders = rw takes_orders.is_of_names (dump_read takes_orders.names)

pub two_files_words_ask : AsksFor two_files_words (Dump two_files_ask)
two_files_words_ask orders takes_orders = rw takes_orders.is_of_names (two_files_read takes_orders.names)
