-- The numbers of refusals, and the first lines of their texts: a number and a name.
use Rattle.std.specs.Prelude.{ℕ, Bool, ◌&&◌, ◌||◌, nat_le, nat_lt, ◌==◌, List, Option, Some, None, codes, if◌then◌else◌}
use Rattle.std.specs.List.{before_first}

-- what stands before the first line feed
abbrev pub first_line : List ℕ → List ℕ
first_line text = before_first (λ c. c == 10) text

abbrev pub is_within : ℕ → ℕ → ℕ → Bool
is_within low high n = nat_le low n && nat_le n high

-- the numbers that refusals have
abbrev pub is_refusal : ℕ → Bool
is_refusal n = is_within 1 7 n || is_within 10 13 n || is_within 20 29 n || is_within 30 37 n || is_within 40 47 n
    || is_within 50 55 n || is_within 60 68 n || is_within 70 70 n || is_within 80 85 n || is_within 90 97 n
    || is_within 100 106 n || is_within 110 124 n || is_within 130 146 n

-- refusals of tokens
abbrev pub token_heading : ℕ → Option (List ℕ)
token_heading n =
    if n == 1 then Some (codes "1 BadChar") else (
    if n == 2 then Some (codes "2 OpenComment") else (
    if n == 3 then Some (codes "3 OpenLiteral") else (
    if n == 4 then Some (codes "4 BadNumber") else (
    if n == 5 then Some (codes "5 BadEscape") else (
    if n == 6 then Some (codes "6 BadDirective") else (
    if n == 7 then Some (codes "7 KeywordCase") else (
    None)))))))

-- refusals of the grammar
abbrev pub grammar_heading : ℕ → Option (List ℕ)
grammar_heading n =
    if n == 10 then Some (codes "10 Unexpected") else (
    if n == 11 then Some (codes "11 EndOfFile") else (
    if n == 12 then Some (codes "12 LeftOut") else (
    if n == 13 then Some (codes "13 TooDeep") else (
    None))))

-- refusals of names, constants and repository ids
abbrev pub name_heading : ℕ → Option (List ℕ)
name_heading n =
    if n == 20 then Some (codes "20 Unknown") else (
    if n == 21 then Some (codes "21 Collides") else (
    if n == 22 then Some (codes "22 CaseDiffers") else (
    if n == 23 then Some (codes "23 Ambiguous") else (
    if n == 24 then Some (codes "24 NotAType") else (
    if n == 25 then Some (codes "25 IdTwice") else (
    if n == 26 then Some (codes "26 BadConstant") else (
    if n == 27 then Some (codes "27 BadBase") else (
    if n == 28 then Some (codes "28 PrefixInScope") else (
    if n == 29 then Some (codes "29 PrefixDiffers") else (
    None))))))))))

-- refusals of types
abbrev pub type_heading : ℕ → Option (List ℕ)
type_heading n =
    if n == 30 then Some (codes "30 SelfHeld") else (
    if n == 31 then Some (codes "31 LabelTwice") else (
    if n == 32 then Some (codes "32 LabelRange") else (
    if n == 33 then Some (codes "33 DefaultNeedless") else (
    if n == 34 then Some (codes "34 BadSwitch") else (
    if n == 35 then Some (codes "35 Limit") else (
    if n == 36 then Some (codes "36 BadOneway") else (
    if n == 37 then Some (codes "37 BadNode") else (
    None))))))))

-- refusals of values and their tapes, and of the library for C
abbrev pub value_heading : ℕ → Option (List ℕ)
value_heading n =
    if n == 40 then Some (codes "40 NotOfType") else (
    if n == 41 then Some (codes "41 NotATape") else (
    if n == 42 then Some (codes "42 NoMemory") else (
    if n == 43 then Some (codes "43 NoTable") else (
    if n == 44 then Some (codes "44 NoName") else (
    if n == 45 then Some (codes "45 NoRoom") else (
    if n == 46 then Some (codes "46 TooLong") else (
    if n == 47 then Some (codes "47 FaultyIdl") else (
    None))))))))

-- refusals of table files
abbrev pub table_heading : ℕ → Option (List ℕ)
table_heading n =
    if n == 50 then Some (codes "50 NotATable") else (
    if n == 51 then Some (codes "51 Version") else (
    if n == 52 then Some (codes "52 BadNumber") else (
    if n == 53 then Some (codes "53 RankRises") else (
    if n == 54 then Some (codes "54 Trailing") else (
    if n == 55 then Some (codes "55 EmptyRoutine") else (
    None))))))

-- refusals of the runner
abbrev pub run_heading : ℕ → Option (List ℕ)
run_heading n =
    if n == 60 then Some (codes "60 Short") else (
    if n == 61 then Some (codes "61 BadBool") else (
    if n == 62 then Some (codes "62 BadEnum") else (
    if n == 63 then Some (codes "63 BadLength") else (
    if n == 64 then Some (codes "64 NoTerminator") else (
    if n == 65 then Some (codes "65 ZeroInside") else (
    if n == 66 then Some (codes "66 OverBound") else (
    if n == 67 then Some (codes "67 TooDeep") else (
    if n == 68 then Some (codes "68 TapeLeft") else (
    None)))))))))

-- refusals of planned programs
abbrev pub plan_heading : ℕ → Option (List ℕ)
plan_heading n =
    if n == 70 then Some (codes "70 Limit") else (
    None)

-- refusals of the checker of tables
abbrev pub check_heading : ℕ → Option (List ℕ)
check_heading n =
    if n == 80 then Some (codes "80 WrongWork") else (
    if n == 81 then Some (codes "81 WrongPadding") else (
    if n == 82 then Some (codes "82 EntryOutside") else (
    if n == 83 then Some (codes "83 ExitsTooSmall") else (
    if n == 84 then Some (codes "84 NoRoutine") else (
    if n == 85 then Some (codes "85 NamedEntryNotFull") else (
    None))))))

-- refusals of messages and references
abbrev pub message_heading : ℕ → Option (List ℕ)
message_heading n =
    if n == 90 then Some (codes "90 NotGiop") else (
    if n == 91 then Some (codes "91 Version") else (
    if n == 92 then Some (codes "92 TooLong") else (
    if n == 93 then Some (codes "93 BadHead") else (
    if n == 94 then Some (codes "94 BadIor") else (
    if n == 95 then Some (codes "95 BuiltIn") else (
    if n == 96 then Some (codes "96 BadBody") else (
    if n == 97 then Some (codes "97 BadFragment") else (
    None))))))))

-- refusals of the broker and its streams
abbrev pub connection_heading : ℕ → Option (List ℕ)
connection_heading n =
    if n == 100 then Some (codes "100 NoSuchConnection") else (
    if n == 101 then Some (codes "101 AlreadyThere") else (
    if n == 102 then Some (codes "102 ReadFailed") else (
    if n == 103 then Some (codes "103 WriteFailed") else (
    if n == 104 then Some (codes "104 NoMemory") else (
    if n == 105 then Some (codes "105 ReadLimit") else (
    if n == 106 then Some (codes "106 TooMany") else (
    None)))))))

-- refusals of the texts of values
abbrev pub text_heading : ℕ → Option (List ℕ)
text_heading n =
    if n == 110 then Some (codes "110 NotJson") else (
    if n == 111 then Some (codes "111 NotWhole") else (
    if n == 112 then Some (codes "112 NotBoolean") else (
    if n == 113 then Some (codes "113 NotChar") else (
    if n == 114 then Some (codes "114 NotText") else (
    if n == 115 then Some (codes "115 NotEnumerator") else (
    if n == 116 then Some (codes "116 NotDigits") else (
    if n == 117 then Some (codes "117 NotAList") else (
    if n == 118 then Some (codes "118 NotMembers") else (
    if n == 119 then Some (codes "119 NoSuchMember") else (
    if n == 120 then Some (codes "120 MemberTwice") else (
    if n == 121 then Some (codes "121 MemberMissing") else (
    if n == 122 then Some (codes "122 WrongCount") else (
    if n == 123 then Some (codes "123 TooDeep") else (
    if n == 124 then Some (codes "124 TextBehind") else (
    None)))))))))))))))

-- refusals of calls
abbrev pub call_heading : ℕ → Option (List ℕ)
call_heading n =
    if n == 130 then Some (codes "130 BadCorbaloc") else (
    if n == 131 then Some (codes "131 BadMessage") else (
    if n == 132 then Some (codes "132 BadReply") else (
    if n == 133 then Some (codes "133 MessageError") else (
    if n == 134 then Some (codes "134 CloseConnection") else (
    if n == 135 then Some (codes "135 ReadFailed") else (
    if n == 136 then Some (codes "136 EndOfStream") else (
    if n == 137 then Some (codes "137 ReadLimit") else (
    if n == 138 then Some (codes "138 WriteFailed") else (
    if n == 139 then Some (codes "139 OtherBody") else (
    if n == 140 then Some (codes "140 TooManyForwards") else (
    if n == 141 then Some (codes "141 NeedsAddressingMode") else (
    None))))))))))))

-- refusals of captures
abbrev pub capture_heading : ℕ → Option (List ℕ)
capture_heading n =
    if n == 142 then Some (codes "142 BadCapture") else (
    if n == 143 then Some (codes "143 UnknownOperation") else (
    if n == 144 then Some (codes "144 NoRequest") else (
    if n == 145 then Some (codes "145 OtherArguments") else (
    if n == 146 then Some (codes "146 CutMessage") else (
    None)))))

-- all of them
abbrev pub heading : ℕ → Option (List ℕ)
heading n =
    if nat_lt n 10 then token_heading n else (
    if nat_lt n 20 then grammar_heading n else (
    if nat_lt n 30 then name_heading n else (
    if nat_lt n 40 then type_heading n else (
    if nat_lt n 50 then value_heading n else (
    if nat_lt n 60 then table_heading n else (
    if nat_lt n 70 then run_heading n else (
    if nat_lt n 80 then plan_heading n else (
    if nat_lt n 90 then check_heading n else (
    if nat_lt n 100 then message_heading n else (
    if nat_lt n 110 then connection_heading n else (
    if nat_lt n 130 then text_heading n else (
    if nat_lt n 142 then call_heading n else (
    capture_heading n)))))))))))))
