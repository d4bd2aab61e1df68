-- The threads of the code are those of the definitions.
use Rattle.model.specs.State as model
use Rattle.heap.specs.declared.java_threads.status.WakeCause.{WakeCause}
use Rattle.heap.specs.declared.java_threads.status.WakeCause.TheVariants as causes
use Rattle.heap.specs.declared.java_threads.status.ThreadStatus.{ThreadStatus}
use Rattle.heap.specs.declared.java_threads.status.ThreadStatus.TheVariants as statuses
use Rattle.heap.specs.declared.java_threads.thread.Thread.TheInside.{Inside}

abbrev pub cause_of : WakeCause → model.WakeCause
cause_of causes.Notified = model.Notified
cause_of causes.Interrupted = model.Interrupted

abbrev pub status_of : ThreadStatus → model.ThreadStatus
status_of statuses.Running = model.Running
status_of (statuses.Waiting object count) = model.Waiting object count
status_of (statuses.Relock object count cause) = model.Relock object count (cause_of cause)
status_of (statuses.Ended exception) = model.Ended exception

abbrev pub cause_named : model.WakeCause → WakeCause
cause_named model.Notified = causes.Notified
cause_named model.Interrupted = causes.Interrupted

abbrev pub status_named : model.ThreadStatus → ThreadStatus
status_named model.Running = statuses.Running
status_named (model.Waiting object count) = statuses.Waiting object count
status_named (model.Relock object count cause) = statuses.Relock object count (cause_named cause)
status_named (model.Ended exception) = statuses.Ended exception

abbrev pub thread_shown : Inside → model.Thread
thread_shown thread =
    record {
      object = thread.object;
      begun = thread.begun;
      pending = thread.pending;
      interrupted = thread.interrupted;
      status = status_of thread.status;
    }

-- no two threads of the code show the same
abbrev pub thread_named : model.Thread → Inside
thread_named thread =
    record {
      object = thread.object;
      begun = thread.begun;
      pending = thread.pending;
      interrupted = thread.interrupted;
      status = status_named thread.status;
    }
