-- The frames of calls, the top one first.
use Rattle.std.specs.Prelude.{nat_lt, List, ◌∷◌, length, if◌then◌else◌}
use Rattle.mote_base.specs.declared.frame.Frame.{Frame}
use Rattle.mote_base.specs.Frames.{frame_limit}

-- a frame on top, or nothing changed where there is no room
abbrev pub pushed : Frame → List Frame → List Frame
pushed f frames = if nat_lt (length frames) frame_limit then f ∷ frames else frames
