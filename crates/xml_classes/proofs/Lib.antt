pub mod ByteTests
