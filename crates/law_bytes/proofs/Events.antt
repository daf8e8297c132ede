-- What one event does to the bytes of a channel that lives through it: a fetch takes the head, a send appends, and nothing else moves one.
use Prim.Native.Nat.{ℕ, ◌%◌}
use mathlib.Core.Path.{◌≡◌, refl, sym, ap, ◌∙◌}
use mathlib.Core.Bool.{Bool, true, false, ◌&&◌, cond}
use mathlib.Core.List.{List, [], ◌∷◌, ◌++◌, append-nil}
use native.Mathlib.Omega.{arith}
use lib.IntN.{ℤ}
use lib.Dec.{eqb}
use lib.Seq.{get_or-set_other}
use borrow.Author.Tests.{eq-eqb, eqb-true}
use Rattle.words.specs.Words.{word}
use Rattle.words.specs.Signed.{bits, eq_z}
use Rattle.words.proofs.Signed.{eq_z_true, eq_eq_z, eq_z_false}
use Rattle.words.proofs.Tests.{both, false_true}
use Rattle.picture.specs.Keys.{done}
use Rattle.picture.specs.Numbers.{live}
use Rattle.picture.specs.declared.Table.TheVariants.{Channels}
use Rattle.sound.specs.Sound.{sound}
use Rattle.sound_facts.proofs.View.{view}
use Rattle.calls.specs.Outcome.{Outcome}
use Rattle.calls.specs.Call.{outcome}
use Rattle.calls.specs.Registers.{D1, A0}
use Rattle.channels.specs.Calls.{fetch, send}
use Rattle.traps.specs.Traps.{trap_three, call_named}
use Rattle.manager.specs.Door.{called}
use Rattle.manager.specs.Turn.{pick_picture, ticking}
use Rattle.manager.proofs.Door.{named_three}
use Rattle.law_turns.proofs.Pick.{pick_is_steady}
use Rattle.law_turns.proofs.Tick.{tick_is_steady}
use Rattle.law_queues.specs.Lists.{bytes_at}
use Rattle.law_queues.proofs.Lists.{send_appends, fetch_takes_the_head}
use Rattle.law_promises.specs.History.{Event, trap, pick, tick, after}
use Rattle.law_promises.proofs.Done.{where_the_call_is_done}
use Rattle.law_bytes.specs.Order.{done_on, is_fetch, is_send, fetched_by, sent_by, NothingElseMovesAByte}
use Rattle.law_bytes.proofs.Kept.{steady_keeps_the_bytes}
use Rattle.law_bytes.proofs.Calls.{refused_leaves, call_keeps}

-- what a call of trap 3 that is done says of the registers
pub record On (code n t : ℕ) (d : List ℕ) (k : ℤ) : Type 0 where
  pub is_three : t ≡ 3
  pub is_code : word d 0 ≡ code
  pub channel : A0 d ≡ n
  pub is_done : k ≡ done

on : (code n t : ℕ) (p d name : List ℕ) → done_on code n (trap t d name) p ≡ true → On code n t d (called t p d name).key
on code n t p d name h =
    let a = both (eqb t 3) _ h in
    let b = both (eqb (word d 0) code) _ a.1 in
    let c = both (eqb (A0 d) n) _ b.1 in
    record { is_three = eqb-true t 3 a.0; is_code = eqb-true (word d 0) code b.0; channel = eqb-true (A0 d) n c.0; is_done = eq_z_true (called t p d name).key done c.1 }

all_four : (a b c e : Bool) → a ≡ true → b ≡ true → c ≡ true → e ≡ true → a && (b && (c && e)) ≡ true
all_four a b c e w x y z = rw (w, x, y, z)

module _ (t : ℕ) (p d name : List ℕ) (s : sound p ≡ true) (n : ℕ) (lives : live p Channels n ≡ true) where
  -- a call that is done and does not pass that test is another one
  none : (code : ℕ) → done_on code n (trap t d name) p ≡ false → (called t p d name).key ≡ done → t ≡ 3 → word d 0 ≡ code → A0 d ≡ n → ⊥
  none code f k e c a = false_true (sym f ∙ all_four (eqb t 3) (eqb (word d 0) code) (eqb (A0 d) n) (eq_z (called t p d name).key done) (eq-eqb t 3 e) (eq-eqb (word d 0) code c) (eq-eqb (A0 d) n a) (eq_eq_z (called t p d name).key done k))

  call_moves_nothing_else : live (called t p d name).picture Channels n ≡ true → is_fetch n (trap t d name) p ≡ false → is_send n (trap t d name) p ≡ false → bytes_at (called t p d name).picture n ≡ bytes_at p n
  call_moves_nothing_else l f g = go (eq_z (called t p d name).key done) refl
    where
      go : (b : Bool) → eq_z (called t p d name).key done ≡ b → bytes_at (called t p d name).picture n ≡ bytes_at p n
      go true k = let z = eq_z_true (called t p d name).key done k in call_keeps t p d name s n lives (none 0x1 f z) (none 0x5 g z) l
      go false k = ap (λ (q : List ℕ). bytes_at q n) (refused_leaves t p d name s n lives (eq_z_false (called t p d name).key done k))

  -- the call that a trap number and D0 name
  is_the_fetch : t ≡ 3 → word d 0 ≡ 0x1 → outcome (call_named t name) p d ≡ outcome fetch p d
  unfolding trap_three outcome
  is_the_fetch e c = named_three t p d name e ∙ rw c

  is_the_send : t ≡ 3 → word d 0 ≡ 0x5 → outcome (call_named t name) p d ≡ outcome send p d
  unfolding trap_three outcome
  is_the_send e c = named_three t p d name e ∙ rw c

  -- a fetch takes the head
  fetch_takes : On 0x1 n t d (called t p d name).key → bytes_at p n ≡ D1 (called t p d name).registers ∷ bytes_at (called t p d name).picture n
  fetch_takes O = where_the_call_is_done t p d name (λ (o : Outcome). bytes_at p n ≡ D1 o.registers ∷ bytes_at o.picture n)
      (λ l _ _ k.
      let z = is_the_fetch O.is_three O.is_code in
      rw (z, get_or-set_other (outcome fetch p d).registers 0 1 (bits (outcome fetch p d).key) 0 (λ e. omega arith), ← O.channel) (fetch_takes_the_head p d s (omega arith) (rw z at k)))
      O.is_done

  -- a send appends
  send_gives : On 0x5 n t d (called t p d name).key → bytes_at (called t p d name).picture n ≡ bytes_at p n ++ ((D1 d % 256) ∷ [])
  send_gives O = where_the_call_is_done t p d name (λ (o : Outcome). bytes_at o.picture n ≡ bytes_at p n ++ ((D1 d % 256) ∷ []))
      (λ _ _ _ k. let z = is_the_send O.is_three O.is_code in rw (z, ← O.channel) (send_appends p d s (rw z at k)))
      O.is_done

  -- the byte fetched and then those that wait are those that waited and then the byte sent
  pub call_keeps_the_order : live (called t p d name).picture Channels n ≡ true
      → fetched_by n (trap t d name) p ++ bytes_at (called t p d name).picture n ≡ bytes_at p n ++ sent_by n (trap t d name) p
  call_keeps_the_order l = go (is_fetch n (trap t d name) p) (is_send n (trap t d name) p) refl refl
    where
      go : (f g : Bool) → is_fetch n (trap t d name) p ≡ f → is_send n (trap t d name) p ≡ g
          → cond f (D1 (called t p d name).registers ∷ []) [] ++ bytes_at (called t p d name).picture n ≡ bytes_at p n ++ cond g ((D1 d % 256) ∷ []) []
      go true true f g =
          let a = (on 0x1 n t p d name f).is_code in
          let b = (on 0x5 n t p d name g).is_code in
          absurd (omega arith)
      go true false f g = sym (fetch_takes (on 0x1 n t p d name f)) ∙ sym (append-nil (bytes_at p n))
      go false true f g = send_gives (on 0x5 n t p d name g)
      go false false f g = call_moves_nothing_else l f g ∙ sym (append-nil (bytes_at p n))

-- a pick and a tick leave every queue
pick_keeps_the_bytes : (p : List ℕ) → sound p ≡ true → (n : ℕ) → live p Channels n ≡ true → bytes_at (pick_picture p) n ≡ bytes_at p n
unfolding pick_picture
pick_keeps_the_bytes p s n l = rw s (steady_keeps_the_bytes p s n l _ (pick_is_steady p (view p s)))

tick_keeps_the_bytes : (p : List ℕ) → sound p ≡ true → (n : ℕ) → live p Channels n ≡ true → bytes_at (ticking p) n ≡ bytes_at p n
unfolding ticking
tick_keeps_the_bytes p s n l = rw s (steady_keeps_the_bytes p s n l _ (tick_is_steady p (view p s)))

pub nothing_else_moves_a_byte : NothingElseMovesAByte
nothing_else_moves_a_byte p s n (trap t d name) a l f g = call_moves_nothing_else t p d name s n a l f g
nothing_else_moves_a_byte p s n pick a l f g = pick_keeps_the_bytes p s n a
nothing_else_moves_a_byte p s n tick a l f g = tick_keeps_the_bytes p s n a

-- of every event
pub event_keeps_the_order : (p : List ℕ) → sound p ≡ true → (n : ℕ) (e : Event) → live p Channels n ≡ true → live (after e p) Channels n ≡ true
    → fetched_by n e p ++ bytes_at (after e p) n ≡ bytes_at p n ++ sent_by n e p
event_keeps_the_order p s n (trap t d name) a l = call_keeps_the_order t p d name s n a l
event_keeps_the_order p s n pick a l = pick_keeps_the_bytes p s n a ∙ sym (append-nil (bytes_at p n))
event_keeps_the_order p s n tick a l = tick_keeps_the_bytes p s n a ∙ sym (append-nil (bytes_at p n))
