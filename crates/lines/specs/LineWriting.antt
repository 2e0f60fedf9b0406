-- Laws of written lines: a line's bytes as they are written, its length, and lines of the rows of a flat list. Assumes nothing.
use Rattle.std.specs.Prelude.{◌≡◌, refl, ℕ, suc, ◌+◌, ◌-◌, ◌*◌, ◌/◌, ◌^◌, ◌≤◌, ◌<◌, length, get_or, take, drop}
use Rattle.std.proofs.Common.{sym, ap, ap₂, ◌∙◌, mul-zero, mul-le-mul_left, add-one, arith, length-append, length-drop, length-take-le, take_all, take_at, drop_at, drop-drop}
use mathlib.Core.List.{List, [], ◌∷◌, ◌++◌, map, flat_map, append_assoc}
use Rattle.std.proofs.Math.Path.{fun_ext}
use Rattle.std.proofs.Math.Nat.{mul-suc, mul-div-le, add-div_left, div-eq_of_lt}
use Rattle.std.proofs.Math.Seq.{take-length}
use Rattle.std.proofs.lemmas.List.{take_more}
use Rattle.sets.specs.Marks.{table, length-table, get_or-table}
use Rattle.sets.specs.Onto.{onto, Front, front_as, tail_of, with_tail, tail_room, tail_back}
use Rattle.sets.specs.Flat.{flat_snoc, flat_longer, with_pieces, next_piece, piece_fits}
use Rattle.lines.specs.Decimal.{tab, feed, decimal, field}
use Rattle.lines.specs.ReadBack.{decimal-width}
use Rattle.lines.specs.Parts.{join}
use Rattle.lines.specs.Line.{line, lines_of, chunks, numbers_of}

-- ---- a number and the byte after it

-- 64 bits have at most 20 digits
pub decimal_short : (n : ℕ) → n < 2 ^ 64 → length (decimal n) ≤ 20
decimal_short n h = decimal-width 20 n (omega arith) (omega arith)

pub few_digits : (n : ℕ) {r : ℕ} → r ≡ length (decimal n) → n < 2 ^ 64 → r ≤ 20
few_digits n e h = rw e (decimal_short n h)

pub field_long : (n end : ℕ) → length (field n end) ≡ length (decimal n) + 1
field_long n end = length-append (decimal n) (end ∷ [])

-- as `write_number` says that it is written
pub field_front : (n end : ℕ) {at : ℕ} {buffer xs : List ℕ}
    → (at ≡ length (decimal n) + 1) × (xs ≡ onto (field n end) buffer) → Front (field n end) buffer at xs
field_front n end e = record { count = omega (arith, e.0, field_long n end); list = e.1 }

-- and the room that it asks
pub field_fits : (n end : ℕ) {room : ℕ} → length (field n end) ≤ room → length (decimal n) < room
field_fits n end h = omega (arith, field_long n end)

-- what a copy says that it has copied
pub copied : {n : ℕ} {bytes buffer xs : List ℕ} → n ≡ length bytes
    → xs ≡ take (length bytes) bytes ++ drop (length bytes) buffer → Front bytes buffer n xs
copied e f = record { count = e; list = rw take-length at f }

-- it is written into the rest of a buffer, which has room for it
module _ {bytes buffer xs : List ℕ} {at : ℕ} (f : Front bytes buffer at xs) (n end : ℕ) where
  pub field_room : length (bytes ++ field n end) ≤ length buffer → length (decimal n) < length (tail_of at xs)
  field_room h = field_fits n end (tail_room f (field n end) h)

  pub field_put : {m : ℕ} {ys : List ℕ} → m ≡ length (decimal n) + 1 → ys ≡ onto (field n end) (tail_of at xs)
      → Front (bytes ++ field n end) buffer (at + m) (with_tail at xs ys)
  field_put e g = tail_back f (field_front n end (e, g))

-- ---- a line

abbrev pub tabbed : ℕ → List ℕ
tabbed n = field n tab

-- every number but the last with a tab, and the last with a line feed
numbers_end : (others : List ℕ) (last : ℕ)
    → flat_map tabbed others ++ field last feed ≡ join tab (map decimal (others ++ last ∷ [])) ++ feed ∷ []
unfolding flat_map
numbers_end [] last = refl
numbers_end (n ∷ []) last = simp append_assoc
numbers_end (n ∷ m ∷ ms) last =
    append_assoc (tabbed n) (flat_map tabbed (m ∷ ms)) (field last feed)
    ∙ ap (λ (bs : List ℕ). tabbed n ++ bs) (numbers_end (m ∷ ms) last)
    ∙ simp append_assoc

pub line-ends : (head others : List ℕ) (last : ℕ)
    → head ++ flat_map tabbed others ++ field last feed ≡ line head (others ++ last ∷ [])
unfolding line
line-ends head others last = simp append_assoc (ap (λ (bs : List ℕ). head ++ bs) (numbers_end others last))

-- the same by the place of the last
whole : (ns : List ℕ) (k : ℕ) → k + 1 ≡ length ns → ns ≡ take k ns ++ get_or ns k 0 ∷ []
whole ns k e = sym (take_all (k + 1) ns (omega arith)) ∙ take_more ns k 0 (omega arith)

pub line-ends_at : (head ns : List ℕ) (k : ℕ) → k + 1 ≡ length ns
    → head ++ flat_map tabbed (take k ns) ++ field (get_or ns k 0) feed ≡ line head ns
line-ends_at head ns k e = line-ends head (take k ns) (get_or ns k 0) ∙ ap (line head) (sym (whole ns k e))

-- the head fits where the line does
pub head_fits : (head ns : List ℕ) → length head ≤ length (line head ns)
unfolding line
head_fits head ns = simp length-append (omega arith)

-- some of the numbers before the last are written after the head
module _ {numbers : List ℕ} (head others : List ℕ) (last : ℕ) (e : numbers ≡ others ++ last ∷ []) {buffer xs : List ℕ} {at : ℕ} (k : ℕ)
    (f : Front (with_pieces tabbed head others k) buffer at xs) where
  before_last : length others ≤ k → with_pieces tabbed head others k ++ field last feed ≡ line head numbers
  before_last all = rw (take_all k others all, e) (line-ends head others last)

  -- there is room for the next where the whole line has room
  module _ (room : length (line head numbers) ≤ length buffer) where
    pub number_room : k < length others → length (decimal (get_or others k 0)) < length (tail_of at xs)
    number_room h =
        let n = get_or others k 0 in
        let all : take (length others) others ≡ others = take-length others in
        field_room f n tab (omega (
          arith,
          piece_fits tabbed head others k (length others) 0 h (omega arith),
          ap length (line-ends head others last),
          ap (λ (ns : List ℕ). length (line head ns)) e,
          ap (λ (ns : List ℕ). length (head ++ flat_map tabbed ns)) all,
          length-append (head ++ flat_map tabbed others) (field last feed),
        ))

    pub last_room : length others ≤ k → length (decimal last) < length (tail_of at xs)
    last_room all = field_room f last feed (omega (arith, ap length (before_last all)))

  -- the last ends the line
  pub last_put : length others ≤ k → {m : ℕ} {ys : List ℕ} → m ≡ length (decimal last) + 1 → ys ≡ onto (field last feed) (tail_of at xs)
      → Front (line head numbers) buffer (at + m) (with_tail at xs ys)
  last_put all g h = front_as (before_last all) (field_put f last feed g h)

-- each room that `put_line` asks
pub ruleset line_rooms = (head_fits, length-take-le, number_room, last_room)

-- its length: a byte after each number
pub line_long : (head ns : List ℕ) → 1 ≤ length ns → length (line head ns) ≡ length head + length (flat_map tabbed ns)
line_long head ns some =
    let k = length ns - 1 in
    let others = take k ns in
    let last = get_or ns k 0 in
    rw (whole ns k (omega arith)) (omega (
      arith,
      ap length (line-ends head others last),
      ap length (flat_snoc tabbed others last),
      length-append (head ++ flat_map tabbed others) (field last feed),
      length-append head (flat_map tabbed others),
      length-append (flat_map tabbed others) (tabbed last),
      field_long last feed,
      field_long last tab,
    ))

-- each number fits after those before it, whatever ends it
pub number_fits : (head ns : List ℕ) (k end : ℕ) → k < length ns
    → length (with_pieces tabbed head ns k ++ field (get_or ns k 0) end) ≤ length (line head ns)
number_fits head ns k end h =
    let n = get_or ns k 0 in
    let done = with_pieces tabbed head ns k in
    omega (
      arith,
      line_long head ns (omega arith),
      piece_fits tabbed head ns k (length ns) 0 h (omega arith),
      ap (λ (ms : List ℕ). length (head ++ flat_map tabbed ms)) (take-length ns),
      length-append head (flat_map tabbed ns),
      length-append done (field n end),
      length-append done (tabbed n),
      field_long n end,
      field_long n tab,
    )

-- the fields of no number, and of one more
pub no_fields : length (flat_map tabbed []) ≡ 0
unfolding flat_map
no_fields = refl

pub fields_longer : (ns : List ℕ) (k : ℕ) → k < length ns
    → length (flat_map tabbed (take (k + 1) ns)) ≡ length (flat_map tabbed (take k ns)) + (length (decimal (get_or ns k 0)) + 1)
fields_longer ns k h = omega (arith, flat_longer tabbed ns k 0 h, field_long (get_or ns k 0) tab)

pub ruleset sizes = (decimal_short, no_fields, fields_longer, line_long, take_all)

-- ---- lines

pub lines_are : (head : List ℕ) (lines : List (List ℕ)) → lines_of head lines ≡ flat_map (line head) lines
unfolding lines_of
lines_are head lines = refl

-- no line, and one more
pub no_lines : (head : List ℕ) → length (flat_map (line head) []) ≡ 0
unfolding flat_map
no_lines head = refl

pub lines_longer : (head : List ℕ) (lines : List (List ℕ)) (k : ℕ) → k < length lines
    → length (flat_map (line head) (take (k + 1) lines))
    ≡ length (flat_map (line head) (take k lines)) + length (line head (get_or lines k []))
lines_longer head lines k h = flat_longer (line head) lines k [] h

pub ruleset line_sizes = (lines_are, no_lines, lines_longer, take_all)

-- some of the lines are written: the next one has room where all have, and comes after them
module _ (head : List ℕ) (lines : List (List ℕ)) {buffer xs : List ℕ} {at : ℕ} (k : ℕ)
    (f : Front (with_pieces (line head) [] lines k) buffer at xs) where
  module _ {l : List ℕ} (h : k < length lines) (e : l ≡ get_or lines k l) where
    pub line_room : length (lines_of head lines) ≤ length buffer → length (line head l) ≤ length (tail_of at xs)
    unfolding lines_of
    line_room room =
        let all : take (length lines) lines ≡ lines = take-length lines in
        let fits = rw (all, ← e) at (piece_fits (line head) [] lines k (length lines) l h (omega arith)) in
        tail_room f (line head l) (omega arith)

    pub line_put : {m : ℕ} {ys : List ℕ} → m ≡ length (line head l) → ys ≡ onto (line head l) (tail_of at xs)
        → Front (with_pieces (line head) [] lines (k + 1)) buffer (at + m) (with_tail at xs ys)
    line_put g i = next_piece (line head) [] lines k l h (rw (← e) (tail_back f (record { count = g; list = i })))

  pub lines_done : length lines ≤ k → Front (lines_of head lines) buffer at xs
  unfolding lines_of
  lines_done all = front_as (rw (take_all k lines all)) f

-- ---- rows of a flat list

module _ (w : ℕ) (ns : List ℕ) where
  pub chunks-count : length (chunks w ns) ≡ length ns / w
  unfolding chunks
  chunks-count = length-table (length ns / w) (λ k. take w (drop (w * k) ns))

  -- every row's line
  pub lines-all : (head : List ℕ) (k : ℕ) → length ns / w ≤ k
      → flat_map (line head) (take k (chunks w ns)) ≡ lines_of head (chunks w ns)
  unfolding lines_of
  lines-all head k h = rw (take_all k (chunks w ns) (omega (arith, chunks-count)))

  module _ (k : ℕ) (h : k < length ns / w) where
    -- row k, as it is lent from its first number to before the next row's
    abbrev pub chunk : List ℕ
    chunk = take (w * k + w - w * k) (drop (w * k) ns)

    pub chunk-within : w * k + w ≤ length ns
    chunk-within = omega (arith, mul-div-le (length ns) w, mul-le-mul_left w h)

    same : w * k + w - w * k ≡ w
    same = omega arith

    pub chunk-length : length chunk ≡ w
    chunk-length = rw same (length-take-le w (drop (w * k) ns) (omega (arith, chunk-within, length-drop (w * k) ns)))

    pub chunk_at : chunk ≡ get_or (chunks w ns) k []
    unfolding chunks
    chunk_at = rw same (sym (get_or-table (length ns / w) (λ j. take w (drop (w * j) ns)) [] k h))

    -- its line is the next one, and has room where all have
    module _ (head : List ℕ) where
      abbrev done : List ℕ
      done = with_pieces (line head) [] (chunks w ns) k

      pub line_longer : length (with_pieces (line head) [] (chunks w ns) (k + 1)) ≡ length done + length (line head chunk)
      line_longer = rw chunk_at (lines_longer head (chunks w ns) k (omega (arith, chunks-count)))

      pub line-next : {buffer xs : List ℕ} {at : ℕ} → Front (done ++ line head chunk) buffer at xs
          → Front (with_pieces (line head) [] (chunks w ns) (k + 1)) buffer at xs
      line-next f = next_piece (line head) [] (chunks w ns) k [] (omega (arith, chunks-count)) (rw chunk_at at f)

      pub line_fits : length (done ++ line head chunk) ≤ length (lines_of head (chunks w ns))
      line_fits =
          let count = length ns / w in
          let long = chunks-count in
          rw (chunk_at, ← lines-all head count (omega arith))
          (piece_fits (line head) [] (chunks w ns) k count [] h (omega arith))

-- the first row and those of the rest; and numbers that fill no row
chunks_next : (w : ℕ) (row ns : List ℕ) → 1 ≤ w → length row ≡ w → chunks w (row ++ ns) ≡ row ∷ chunks w ns
unfolding chunks
chunks_next w row ns some long =
    rw (length-append row ns, long, add-div_left (length ns) some, add-one (length ns / w))
    (ap₂ ◌∷◌ first (ap (table (length ns / w)) (fun_ext rest)))
  where
    first : take w (drop (w * 0) (row ++ ns)) ≡ row
    first = rw (mul-zero w) (take_at row ns w long)

    rest : (k : ℕ) → take w (drop (w * suc k) (row ++ ns)) ≡ take w (drop (w * k) ns)
    rest k =
        let next : w + w * k ≡ w * suc k = omega (arith, mul-suc w k) in
        ap (take w)
        (sym (drop-drop (w * k) w (row ++ ns) ∙ ap (λ (n : ℕ). drop n (row ++ ns)) next) ∙ ap (drop (w * k)) (drop_at row ns w long))

chunks_short : (w : ℕ) (ns : List ℕ) → length ns < w → chunks w ns ≡ []
unfolding chunks
chunks_short w ns few = rw (div-eq_of_lt few)

-- so are their lines
pub rows_next : (head : List ℕ) (w : ℕ) (row ns : List ℕ) → 1 ≤ w → length row ≡ w
    → lines_of head (chunks w (row ++ ns)) ≡ line head row ++ lines_of head (chunks w ns)
unfolding lines_of flat_map
rows_next head w row ns some long = rw (chunks_next w row ns some long)

pub rows_short : (head : List ℕ) (w : ℕ) (ns : List ℕ) → length ns < w → lines_of head (chunks w ns) ≡ []
unfolding lines_of flat_map
rows_short head w ns few = rw (chunks_short w ns few)

-- rows of w numbers each are those of their numbers
abbrev pub AllWide : ℕ → List (List ℕ) → Type 0
AllWide w [] = Unit {0}
AllWide w (r ∷ rs) = (length r ≡ w) × AllWide w rs

pub wide_snoc : (w : ℕ) (rs : List (List ℕ)) (r : List ℕ) → AllWide w rs → length r ≡ w → AllWide w (rs ++ r ∷ [])
wide_snoc w [] r all e = (e, tt)
wide_snoc w (q ∷ qs) r all e = (all.0, wide_snoc w qs r all.1 e)

pub chunks_back : (w : ℕ) (rows : List (List ℕ)) → 1 ≤ w → AllWide w rows → chunks w (numbers_of rows) ≡ rows
unfolding flat_map
chunks_back w [] some all = chunks_short w [] some
chunks_back w (r ∷ rs) some all = rw (chunks_next w r (numbers_of rs) some all.0, chunks_back w rs some all.1)
