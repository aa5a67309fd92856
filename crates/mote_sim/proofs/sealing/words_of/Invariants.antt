use Rattle.std.proofs.Common.{◌≡◌, take}
use Rattle.mote_sim.proofs.sealing.words_of.Given as goal

-- the words so far are taken
abbrev pub invariant-loop-place : goal.invariant-loop-place
invariant-loop-place l = l.words.items ≡ take l.place l.code
