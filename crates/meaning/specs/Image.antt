-- BELIEF. The saved image: the bytes of a history, and what an image says.
-- Assumes nothing.
use Rattle.std.specs.Prelude.{ℕ, zero, suc, ◌+◌, ◌-◌, ◌*◌, ◌/◌, ◌%◌, ◌^◌, Bool, false, not, cond, ◌&&◌, ◌||◌, List, [], ◌∷◌, ◌++◌, map, eqb, leb, ltb, length, take, drop}
use Rattle.meaning.specs.Limits.{header_kind, session_kind, head_length, count_length, row_length, set_length, total_at, gone_at, carried_at, header_length, session_length}
use Rattle.meaning.specs.Lists.{all}
use Rattle.meaning.specs.Records.{head_of, marked, kind_of}
use Rattle.meaning.specs.Rules.{Rules}
use Rattle.meaning.specs.Events.{allowed, closed}
use Rattle.meaning.specs.History.{Told, saved, refused, let_go, kept_of, carried}
use Rattle.meaning.specs.Refusals.{Answer, good}

-- a number in k bytes, lowest first, and back
unfoldable pub bytes_of : ℕ → ℕ → List ℕ
bytes_of zero n = []
bytes_of (suc k) n = n % 256 ∷ bytes_of k (n / 256)

unfoldable pub number_of : List ℕ → ℕ
number_of [] = 0
number_of (b ∷ bs) = b + 256 * number_of bs

-- what an image says
pub record Image : Type 0 where
  pub total : ℕ
  pub gone : ℕ
  -- what is carried past the sessions let go
  pub carried_row : ℕ
  -- the sets of the kept sessions, oldest first
  pub sets : List ℕ

unfoldable pub session_bytes : List ℕ → List ℕ
session_bytes [] = []
session_bytes (x ∷ xs) = head_of session_kind ++ bytes_of set_length x ++ session_bytes xs

-- total, let go, and the row at the last session let go
unfoldable pub header_bytes : ℕ → ℕ → ℕ → List ℕ
header_bytes total gone row = head_of header_kind ++ bytes_of count_length total ++ bytes_of count_length gone ++ bytes_of row_length row

unfoldable pub image_bytes : Image → List ℕ
image_bytes m = header_bytes m.total m.gone m.carried_row ++ session_bytes m.sets

unfoldable pub image_of : Rules → List ℕ → Image
image_of r h = record { total = length h; gone = let_go r h; carried_row = carried r h; sets = kept_of r h }

-- SAVING: the bytes at the front of the lent buffer, and nothing behind them

pub record Saving : Type 0 where
  pub told : Told
  pub buffer : List ℕ

-- too short a buffer is left as it was
unfoldable pub save : Rules → List ℕ → List ℕ → Saving
save r h buffer =
    let bytes = image_bytes (image_of r h) in
    cond (ltb (length buffer) (length bytes))
    (record { told = refused 41; buffer = buffer })
    (record { told = saved (length bytes); buffer = bytes ++ drop (length bytes) buffer })

-- READING AN IMAGE

-- n parts, each as long as a session
unfoldable pub in_parts : ℕ → List ℕ → List (List ℕ)
in_parts zero s = []
in_parts (suc n) s = take session_length s ∷ in_parts n (drop session_length s)

unfoldable pub headed : ℕ → List ℕ → Bool
headed kind s = marked s && eqb (kind_of s) kind

-- a header, and so many sessions
unfoldable pub kept_in : List ℕ → ℕ
kept_in s = (length s - header_length) / session_length

unfoldable pub sessions_in : List ℕ → List (List ℕ)
sessions_in s = in_parts (kept_in s) (drop header_length s)

unfoldable pub said : List ℕ → Image
said s =
    record {
      total = number_of (take count_length (drop total_at s));
      gone = number_of (take count_length (drop gone_at s));
      carried_row = number_of (take row_length (drop carried_at s));
      sets = map (λ p. number_of (drop head_length p)) (sessions_in s);
    }

-- length, mark or kind wrong, over `limit` kept, total not let go + kept, or a row that isn't 0 with none let go
unfoldable pub misshapen : ℕ → List ℕ → Bool
misshapen limit s =
    let m = said s in
    ltb (length s) header_length
    || not (eqb ((length s - header_length) % session_length) 0)
    || not (headed header_kind s)
    || not (all (headed session_kind) (sessions_in s))
    || ltb limit (kept_in s)
    || not (eqb m.total (m.gone + kept_in s))
    || (eqb m.gone 0 && not (eqb m.carried_row 0))

unfoldable pub oldest_closed : Rules → List ℕ → Bool
oldest_closed r [] = false
oldest_closed r (x ∷ xs) = closed r x

-- event or row bits outside the sheet, a session not allowed, or the oldest kept one closed
unfoldable pub unlawful : Rules → Image → Bool
unlawful r m =
    not (all (λ x. ltb x (2 ^ r.events)) m.sets)
    || leb (2 ^ r.nodes) m.carried_row
    || not (all (allowed r) m.sets)
    || oldest_closed r m.sets

unfoldable pub read_image : ℕ → Rules → List ℕ → Answer Image
read_image limit r s = cond (misshapen limit s) (Answer.refused 42) (cond (unlawful r (said s)) (Answer.refused 43) (good (said s)))
