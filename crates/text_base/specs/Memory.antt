-- What a shelf and a sink in memory keep.
use Rattle.std.specs.Prelude.{ℕ, ◌+◌, ◌-◌, ◌^◌, min, Bool, not, ◌&&◌, List, ◌++◌, take, Result, Ok, Err, is_none, if◌then◌else◌}
use Rattle.std.specs.Prelude.{refl, ◌==◌}
use Rattle.std.specs.List.{list_any}
use Rattle.std.specs.FinMap as map
use Rattle.std.specs.Coded.{Coded, code_by, coded×, coded_ℕ, coded_list}
use Rattle.text_base.specs.Files.{Files}
use Rattle.text_base.specs.declared.shelf.ShelfWrite.{ShelfWrite}
use Rattle.text_base.specs.declared.shelf.ShelfWrite.TheVariants as write
use Rattle.text_base.specs.declared.sink.SinkError.{SinkError}
use Rattle.text_base.specs.declared.sink.SinkError.TheVariants.{Failed, Memory}

-- a map, the numbers of the calls that are to fail, how many calls there were, and the counts
pub record ShelfState : Type 0 where
  pub files : Files
  pub failing_reads : List ℕ
  pub failing_writes : List ℕ
  pub reads : ℕ
  pub writes : ℕ
  pub read_faults : ℕ
  pub write_faults : ℕ
  pub absences : ℕ
  pub denials : ℕ

abbrev pub shelf_code : Coded ShelfState
shelf_code = code_by (Files × (List ℕ × (List ℕ × (ℕ × (ℕ × (ℕ × (ℕ × (ℕ × ℕ))))))))
    (coded× (map.code (coded_list coded_ℕ) (coded_list coded_ℕ)) (coded× (coded_list coded_ℕ) (coded× (coded_list coded_ℕ) (coded× coded_ℕ (coded× coded_ℕ (coded× coded_ℕ (coded× coded_ℕ (coded× coded_ℕ coded_ℕ))))))))
    (λ s. (s.files, (s.failing_reads, (s.failing_writes, (s.reads, (s.writes, (s.read_faults, (s.write_faults, (s.absences, s.denials)))))))))
    (λ p. record { files = p.0; failing_reads = p.1.0; failing_writes = p.1.1.0; reads = p.1.1.1.0; writes = p.1.1.1.1.0; read_faults = p.1.1.1.1.1.0; write_faults = p.1.1.1.1.1.1.0; absences = p.1.1.1.1.1.1.1.0; denials = p.1.1.1.1.1.1.1.1 })
    (λ _. refl)

-- the bytes, the numbers of the calls that are to fail, how many calls there were, the counts, and the most that one call takes
pub record SinkState : Type 0 where
  pub bytes : List ℕ
  pub failing_puts : List ℕ
  pub puts : ℕ
  pub faults : ℕ
  pub denials : ℕ
  pub most : ℕ

-- one more, at most what 64 bits hold
abbrev pub counted : ℕ → ℕ
counted n = min (n + 1) (2 ^ 64 - 1)

-- the call that comes next is to fail
abbrev pub fails_next : ℕ → List ℕ → Bool
fails_next calls failing = list_any (λ number. number == counted calls) failing

-- the read that comes next is to fail
abbrev pub read_fails : ShelfState → Bool
read_fails s = fails_next s.reads s.failing_reads

-- the write that comes next is to fail
abbrev pub write_fails : ShelfState → Bool
write_fails s = fails_next s.writes s.failing_writes

-- the put that comes next is to fail
abbrev pub put_fails : SinkState → Bool
put_fails s = fails_next s.puts s.failing_puts

-- the read of this name that comes next is to find it missing
abbrev pub read_misses : ShelfState → List ℕ → Bool
read_misses s name = not (read_fails s) && is_none (map.get s.files name)

-- How a shelf is after a read of the name. The call is counted, and its fault or the absence of the name.
abbrev pub after_read : ShelfState → List ℕ → ShelfState
after_read s name = record s {
  reads = counted s.reads;
  read_faults = if read_fails s then counted s.read_faults else s.read_faults;
  absences = if read_misses s name then counted s.absences else s.absences;
}

-- How a shelf is after a write with this answer, which left this map. The call is counted, and its fault or want of memory.
abbrev pub after_write : {A : Type 0} → ShelfState → Result A ShelfWrite → Files → ShelfState
after_write s (Ok value) files = record s { files = files; writes = counted s.writes }
after_write s (Err write.Failed) files = record s { files = files; writes = counted s.writes; write_faults = counted s.write_faults }
after_write s (Err write.Memory) files = record s { files = files; writes = counted s.writes; denials = counted s.denials }

-- How a sink is after it gave the answer to the piece. The call is counted, and its fault or want of memory.
abbrev pub after_put : SinkState → List ℕ → Result ℕ SinkError → SinkState
after_put s piece (Ok count) = record s { puts = counted s.puts; bytes = s.bytes ++ take count piece }
after_put s piece (Err Failed) = record s { puts = counted s.puts; faults = counted s.faults }
after_put s piece (Err Memory) = record s { puts = counted s.puts; denials = counted s.denials }
