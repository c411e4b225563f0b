pub mod ControllerHandles
pub mod DriverHandles
pub mod HostHandles
pub mod Policies
pub mod PortHandles
pub mod Rooms
