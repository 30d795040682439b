-- BELIEF. A year of doors, worked: W1 to W11 as one table and one statement about the written meaning.
-- To try one row alone, state `heard w3 ≡ w3.expected` with the same `unfolding` line.
-- Assumes nothing.
use Rattle.std.specs.Prelude.{ℕ, ◌≡◌, refl, true, false, List, [], ◌∷◌, ◌++◌, map}
use Rattle.meaning.specs.Rules.{Rules}
use Rattle.meaning.specs.Refusals.{Answer, good}
use Rattle.meaning.specs.Sheet.{Sheet, sheet_of, rules_of}
use Rattle.meaning.specs.Question.{Found, question}
use Rattle.meaning.specs.Limits.{kept_most}
use Rattle.meaning.specs.History.{Told}
use Rattle.meaning.specs.History
use Rattle.meaning.specs.Lists
use Rattle.meaning.specs.Sets
use Rattle.meaning.specs.Rules
use Rattle.meaning.specs.Events
use Rattle.meaning.specs.Policy
use Rattle.meaning.specs.Records
use Rattle.meaning.specs.Path
use Rattle.meaning.specs.Sheet
use Rattle.meaning.specs.Question
use Rattle.meaning.specs.Image
use Rattle.meaning.specs.Image.{save}

-- what is asked, in order, of a fresh history under a sheet
pub data Ask : Type 0 where
  begin check counts : Ask
  record' : ℕ → ℕ → Ask
  -- into a buffer that holds these bytes
  save' : List ℕ → Ask
  -- access, path
  path : ℕ → List ℕ → Ask

-- what is heard: what a call tells, also with the buffer's content afterwards; or the path question's answer
pub data Heard : Type 0 where
  told : Told → Heard
  wrote : Told → List ℕ → Heard
  answered : Answer Found → Heard

pub record Case : Type 0 where
  pub sheet : List ℕ
  pub asked : List Ask
  pub expected : List Heard

-- the calls, one after the other
runs : List ℕ → Rules → List ℕ → List Ask → List Heard
runs sheet r h [] = []
runs sheet r h (begin ∷ rest) = let a = History.begin r kept_most h in told a.told ∷ runs sheet r a.history rest
runs sheet r h (check ∷ rest) = told (History.check r h).told ∷ runs sheet r h rest
runs sheet r h (counts ∷ rest) = told (History.counts r h).told ∷ runs sheet r h rest
runs sheet r h (record' s e ∷ rest) = let a = History.record_in r h s e in told a.told ∷ runs sheet r a.history rest
runs sheet r h (save' buffer ∷ rest) = let w = save r h buffer in wrote w.told w.buffer ∷ runs sheet r h rest
runs sheet r h (path access p ∷ rest) = answered (question sheet access p) ∷ runs sheet r h rest

loaded : List ℕ → List Ask → Answer Sheet → List Heard
loaded sheet asked (good s) = runs sheet (rules_of s) [] asked
loaded sheet asked (Answer.refused n) = []

pub heard : Case → List Heard
heard c = loaded c.sheet c.asked (sheet_of c.sheet)

-- THE SHEETS: W whole, and W with other nodes

lists : List ℕ
lists =
    0xB4 ∷ 0x4D ∷ 0x01 ∷ 0x01 ∷ 0x04
    ∷ 0xB4 ∷ 0x4D ∷ 0x02 ∷ 0x02 ∷ 0x00 ∷ 0x01
    ∷ 0xB4 ∷ 0x4D ∷ 0x02 ∷ 0x02 ∷ 0x00 ∷ 0x02
    ∷ 0xB4 ∷ 0x4D ∷ 0x02 ∷ 0x02 ∷ 0x00 ∷ 0x03
    ∷ 0xB4 ∷ 0x4D ∷ 0x03 ∷ 0x02 ∷ 0x01 ∷ 0x02
    ∷ 0xB4 ∷ 0x4D ∷ 0x04 ∷ 0x0B ∷ 0x01 ∷ 0x01 ∷ 0x2F ∷ 0x73 ∷ 0x72 ∷ 0x76 ∷ 0x2F ∷ 0x6D ∷ 0x6F ∷ 0x64 ∷ 0x31
    ∷ []

-- never connected
W : List ℕ
W =
    lists
    ++ (0xB4 ∷ 0x4D ∷ 0x05 ∷ 0x01 ∷ 0x00
    ∷ 0xB4 ∷ 0x4D ∷ 0x05 ∷ 0x02 ∷ 0x01 ∷ 0x02
    ∷ 0xB4 ∷ 0x4D ∷ 0x05 ∷ 0x03 ∷ 0x07 ∷ 0x00 ∷ 0x01
    ∷ 0xB4 ∷ 0x4D ∷ 0x05 ∷ 0x02 ∷ 0x03 ∷ 0x02
    ∷ [])

-- previous true
W_previous : List ℕ
W_previous = lists ++ (0xB4 ∷ 0x4D ∷ 0x05 ∷ 0x01 ∷ 0x00 ∷ 0xB4 ∷ 0x4D ∷ 0x05 ∷ 0x02 ∷ 0x06 ∷ 0x00 ∷ [])

-- possible 1, possible 2
W_possible : List ℕ
W_possible = lists ++ (0xB4 ∷ 0x4D ∷ 0x05 ∷ 0x02 ∷ 0x02 ∷ 0x01 ∷ 0xB4 ∷ 0x4D ∷ 0x05 ∷ 0x02 ∷ 0x02 ∷ 0x02 ∷ [])

-- THE ROWS

accepted : Heard
accepted = told Told.recorded

begins : ℕ → Heard
begins n = told (Told.begun n)

refuses : ℕ → Heard
refuses n = told (Told.refused n)

allow : ℕ → Heard
allow row = told (Told.checked true row)

deny : ℕ → Heard
deny row = told (Told.checked false row)

total_let_go_kept : ℕ → ℕ → ℕ → Heard
total_let_go_kept t l k = told (Told.counted t l k)

w1 : Case
w1 = record { sheet = W; asked = check ∷ []; expected = allow 9 ∷ [] }

w2 : Case
w2 = record { sheet = W; asked = begin ∷ record' 1 1 ∷ []; expected = begins 1 ∷ refuses 26 ∷ [] }

w3 : Case
w3 =
    record {
      sheet = W;
      asked = begin ∷ record' 1 0 ∷ record' 1 2 ∷ check ∷ record' 1 1 ∷ record' 1 0 ∷ [];
      expected = begins 1 ∷ accepted ∷ accepted ∷ deny 7 ∷ refuses 25 ∷ refuses 24 ∷ [];
    }

w4 : Case
w4 =
    record {
      sheet = W;
      asked = begin ∷ record' 1 0 ∷ record' 1 2 ∷ record' 1 3 ∷ counts ∷ check ∷ [];
      expected = begins 1 ∷ accepted ∷ accepted ∷ accepted ∷ total_let_go_kept 1 1 0 ∷ deny 7 ∷ [];
    }

-- W5 and W6 go on from W4. The buffer has two bytes more than the image, which stay.
w5 : Case
w5 =
    record {
      sheet = W;
      asked =
          begin ∷ record' 1 0 ∷ record' 1 2 ∷ record' 1 3 ∷ begin ∷ check
          ∷ save' (1 ∷ 2 ∷ 3 ∷ 4 ∷ 5 ∷ 6 ∷ 7 ∷ 8 ∷ 9 ∷ 10 ∷ 11 ∷ 12 ∷ 13 ∷ 14 ∷ 15 ∷ 16 ∷ 17 ∷ 18 ∷ 19 ∷ 20 ∷ 21 ∷ 22 ∷ 23 ∷ 24 ∷ 25 ∷ 26 ∷ 27 ∷ 28 ∷ [])
          ∷ [];
      expected =
          begins 1 ∷ accepted ∷ accepted ∷ accepted ∷ begins 2 ∷ deny 5
          ∷ wrote (Told.saved 26)
          (0xB4 ∷ 0x4D ∷ 0x08 ∷ 0x02 ∷ 0x00 ∷ 0x00 ∷ 0x00 ∷ 0x01 ∷ 0x00 ∷ 0x00 ∷ 0x00 ∷ 0x07 ∷ 0x00 ∷ 0x00 ∷ 0x00 ∷ 0x00 ∷ 0x00 ∷ 0x00 ∷ 0x00
          ∷ 0xB4 ∷ 0x4D ∷ 0x09 ∷ 0x00 ∷ 0x00 ∷ 0x00 ∷ 0x00 ∷ 27 ∷ 28 ∷ [])
          ∷ [];
    }

w6 : Case
w6 =
    record {
      sheet = W;
      asked = begin ∷ record' 1 0 ∷ record' 1 2 ∷ record' 1 3 ∷ begin ∷ record' 1 0 ∷ record' 3 4 ∷ record' 1 4 ∷ [];
      expected = begins 1 ∷ accepted ∷ accepted ∷ accepted ∷ begins 2 ∷ refuses 23 ∷ refuses 21 ∷ refuses 22 ∷ [];
    }

w7 : Case
w7 =
    record {
      sheet = W;
      asked =
          begin ∷ begin ∷ record' 2 0 ∷ record' 2 1 ∷ record' 2 3 ∷ counts ∷ check
          ∷ record' 1 0 ∷ record' 1 2 ∷ check ∷ record' 1 3 ∷ counts ∷ check ∷ [];
      expected =
          begins 1 ∷ begins 2 ∷ accepted ∷ accepted ∷ accepted ∷ total_let_go_kept 2 0 2 ∷ allow 9
          ∷ accepted ∷ accepted ∷ deny 5 ∷ accepted ∷ total_let_go_kept 2 2 0 ∷ deny 5 ∷ [];
    }

-- the last three records close session 1, so that it is let go
w8 : Case
w8 =
    record {
      sheet = W_previous;
      asked = check ∷ begin ∷ check ∷ begin ∷ check ∷ record' 1 0 ∷ record' 1 1 ∷ record' 1 3 ∷ counts ∷ check ∷ [];
      expected =
          deny 1 ∷ begins 1 ∷ deny 1 ∷ begins 2 ∷ allow 3 ∷ accepted ∷ accepted ∷ accepted ∷ total_let_go_kept 2 1 1 ∷ allow 3 ∷ [];
    }

w9 : Case
w9 =
    record {
      sheet = W_possible;
      asked = begin ∷ record' 1 0 ∷ check ∷ record' 1 1 ∷ check ∷ [];
      expected = begins 1 ∷ accepted ∷ allow 3 ∷ accepted ∷ deny 1 ∷ [];
    }

-- /srv/mod1, as it stands in the sheet
mod1 : List ℕ
mod1 = 0x2F ∷ 0x73 ∷ 0x72 ∷ 0x76 ∷ 0x2F ∷ 0x6D ∷ 0x6F ∷ 0x64 ∷ 0x31 ∷ []

event1 : List ℕ → Heard
event1 rest = answered (good (record { event = 1; root = mod1; rest = rest }))

none : ℕ → Heard
none n = answered (Answer.refused n)

-- writes: /srv/mod1/a, /srv/mod1, /srv/mod10/a; a read: /srv/mod1/a
w10 : Case
w10 =
    record {
      sheet = W;
      asked =
          path 1 (mod1 ++ (0x2F ∷ 0x61 ∷ []))
          ∷ path 1 mod1
          ∷ path 1 (mod1 ++ (0x30 ∷ 0x2F ∷ 0x61 ∷ []))
          ∷ path 0 (mod1 ++ (0x2F ∷ 0x61 ∷ []))
          ∷ [];
      expected = event1 (0x2F ∷ 0x61 ∷ []) ∷ event1 [] ∷ none 33 ∷ none 33 ∷ [];
    }

-- writes: /srv/mod1/../mod2/x, /srv/mod1/, /, /srv/mod1/..a
w11 : Case
w11 =
    record {
      sheet = W;
      asked =
          path 1 (mod1 ++ (0x2F ∷ 0x2E ∷ 0x2E ∷ 0x2F ∷ 0x6D ∷ 0x6F ∷ 0x64 ∷ 0x32 ∷ 0x2F ∷ 0x78 ∷ []))
          ∷ path 1 (mod1 ++ (0x2F ∷ []))
          ∷ path 1 (0x2F ∷ [])
          ∷ path 1 (mod1 ++ (0x2F ∷ 0x2E ∷ 0x2E ∷ 0x61 ∷ []))
          ∷ [];
      expected = none 32 ∷ none 32 ∷ none 32 ∷ event1 (0x2F ∷ 0x2E ∷ 0x2E ∷ 0x61 ∷ []) ∷ [];
    }

pub table : List Case
table = w1 ∷ w2 ∷ w3 ∷ w4 ∷ w5 ∷ w6 ∷ w7 ∷ w8 ∷ w9 ∷ w10 ∷ w11 ∷ []

pub worked : map heard table ≡ map (λ c. c.expected) table
unfolding
    table w1 w2 w3 w4 w5 w6 w7 w8 w9 w10 w11 heard loaded runs lists W W_previous W_possible accepted begins refuses allow deny total_let_go_kept mod1 event1 none
    Lists.all Lists.is_empty Lists.contains Lists.same
    Sets.some Sets.every Sets.mem Sets.set_of Sets.added Sets.within Sets.apart
    Rules.node_in_range
    Events.some_pair Events.chain Events.needed_by Events.conflicting_with Events.possible Events.supported Events.addable Events.closed
    Policy.session Policy.holds Policy.formula_of Policy.formulas Policy.node_holds Policy.row Policy.or_one_empty Policy.last_row Policy.satisfies
    Records.head_of Records.marked Records.kind_of
    Path.segment_ok Path.prepend Path.segments Path.well_formed Path.edge Path.rest_after Path.covers
    Sheet.kinds Sheet.known_kind Sheet.kind_at Sheet.kind_number Sheet.node_kinds Sheet.node_kind Sheet.node_fits Sheet.node_of Sheet.payload Sheet.behind
    Sheet.whole Sheet.fits Sheet.framed Sheet.root_in Sheet.node_in Sheet.item_of Sheet.nothing_read Sheet.key_of Sheet.also Sheet.noted Sheet.after_record
    Sheet.tally Sheet.ascends Sheet.disordered Sheet.so_far Sheet.known_access Sheet.pair_in_range Sheet.in_range Sheet.root_formed Sheet.item_fault
    Sheet.item_at Sheet.fault Sheet.walk Sheet.with_nodes Sheet.sheet_of Sheet.rules_of
    Question.longer Question.better Question.longest Question.found Question.path_fault Question.path_in Question.asked_of Question.question
    History.or_refused History.let_go History.kept_of History.carried History.begin_fault History.begin History.with_session History.record_fault History.record_in History.check History.counts
    Image.bytes_of Image.session_bytes Image.header_bytes Image.image_bytes Image.image_of Image.save
worked = refl
